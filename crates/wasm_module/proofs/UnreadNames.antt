-- Custom sections `name` that can't be read.
use Rattle.std.proofs.Common.{◌≡◌, ℕ, ◌≤◌, List, [], ◌∷◌, ◌++◌, sym, subst}
use Rattle.std.proofs.lemmas.List.Elements.{All-weaker}
use Rattle.wasm_binary.specs.Modules.{section}
use Rattle.wasm_module.specs.NameSections.{IsSubsection, AreSubsections, name_bytes}
use Rattle.wasm_module.specs.Sections.{PlacedSection}
use Rattle.wasm_module.specs.Steps.NameSections.{Takes, BeginsNone, IsAny, TakesSized, BeginsUnsized, TakesItems}
use Rattle.wasm_module.specs.UnreadNames.{AreUnread, HasNoUnreadNames}
use Rattle.wasm_module.proofs.Descriptions.{name_taken}
use Rattle.wasm_module.proofs.SizedContents.{same_content}
use Rattle.wasm_module.proofs.Subsections.{next_subsection}
use Rattle.wasm_module.proofs.TextItems.{no_items, items_on}
use Rattle.wasm_module.proofs.TreesOfNames.{more_read}

-- ---- subsections

-- subsections that can be read were taken from the front of the texts
pub record AreReadUpTo (count : ℕ) (texts rest : List ℕ) : Type 0 where
  pub ids : List ℕ
  pub taken : TakesItems (IsSubsection count) ids texts rest

pub none_read : (count : ℕ) (texts : List ℕ) → AreReadUpTo count texts texts
none_read count texts = record { ids = []; taken = no_items (IsSubsection count) texts }

pub one_read : (count : ℕ) (texts rest after : List ℕ) → AreReadUpTo count texts rest →
    Takes (IsAny (IsSubsection count)) rest after → AreReadUpTo count texts after
one_read count texts rest after r t =
    record {
      ids = r.ids ++ t.is_text.item ∷ [];
      taken = items_on (IsSubsection count) r.ids texts rest after t.text t.is_text.item r.taken
          t.is_text.is_text t.parts;
    }

pub rest_unread : (count : ℕ) (texts rest : List ℕ) → AreReadUpTo count texts rest → (rest ≡ [] → ⊥) →
    BeginsNone (IsAny (IsSubsection count)) rest → ¬ (AreSubsections count texts)
rest_unread count texts rest r some h a =
    let n = next_subsection count r.taken.text r.ids texts a.ids rest r.taken.are a.are (sym r.taken.parts)
    some in
    h n.0 n.1

-- ---- sections

pub nameless_section : (count id : ℕ) (content : List ℕ) → BeginsUnsized content →
    ¬ (AreUnread count (section id content))
nameless_section count id content h u = h name_bytes u.has_name.follows (name_taken name_bytes content u.has_name)

pub other_section : (count id : ℕ) (content name rest : List ℕ) → TakesSized name content rest →
    (name ≡ name_bytes → ⊥) → ¬ (AreUnread count (section id content))
other_section count id content name rest t other u =
    other (same_content content name rest name_bytes u.has_name.follows t
    (name_taken name_bytes content u.has_name)).0

pub read_section : (count id : ℕ) (content rest : List ℕ) → TakesSized name_bytes content rest →
    AreSubsections count rest → ¬ (AreUnread count (section id content))
read_section count id content rest t are u =
    let same = same_content content name_bytes rest name_bytes u.has_name.follows t
    (name_taken name_bytes content u.has_name) in
    u.unread (subst (λ (x : List ℕ). AreSubsections count x) same.1 are)

pub unread_section : (count id : ℕ) (content rest : List ℕ) → id ≡ 0 → TakesSized name_bytes content rest →
    ¬ (AreSubsections count rest) → AreUnread count (section id content)
unread_section count id content rest custom t h =
    record {
      is_custom = custom;
      has_name = record { size = t.size; follows = rest; is_size = t.is_size; parts = t.parts };
      unread = h;
    }

-- a section that is none of them
abbrev pub AreNoUnread : ℕ → PlacedSection → Type 0
AreNoUnread count s = AreUnread count s.framed → ⊥

-- with more types no more sections can't be read
pub more_types : (bytes : List ℕ) (count more : ℕ) → HasNoUnreadNames count bytes → count ≤ more →
    HasNoUnreadNames more bytes
more_types bytes count more h few =
    record {
      sections = h.sections;
      has = h.has;
      none = All-weaker (AreNoUnread count) (AreNoUnread more)
          (λ s none u. none (record {
            is_custom = u.is_custom;
            has_name = u.has_name;
            unread = λ are. u.unread (more_read count more few u.has_name.follows are);
          })) h.sections h.none;
    }
