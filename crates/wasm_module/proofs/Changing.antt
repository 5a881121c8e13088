-- Texts in front of bytes that become others, one after another.
use Rattle.std.proofs.Common.{◌≡◌, ℕ, zero, suc, ◌+◌, ◌-◌, ◌<◌, List, [], ◌∷◌, ◌++◌, length, take, Option, Some, None, IfSome, IfNone, refl, sym, ap, subst, ◌∙◌, arith, append_assoc, append-nil, length-append, take_at}
use Rattle.std.proofs.lemmas.List.{append_cancel_right}
use Rattle.wasm_module.specs.Changes.{Change, Changes, TurnsInto, ChangeAll, none, next, FirstIn, here, behind}
use Rattle.wasm_module.specs.Steps.Changes.{KeepsPrefix, ChangesPrefix, IsChangedUpTo}

-- ---- what an option says

-- what follows in both cases
pub in_both : {A : Type 0} (o : Option A) (P : Type 0) (Q : A → Type 0) (C : Type 0) → IfNone o P →
    IfSome o Q → (P → C) → ((x : A) → Q x → C) → C
in_both None P Q C p q f g = f p
in_both (Some x) P Q C p q f g = g x q

pub none_weaker : {A : Type 0} (o : Option A) (P Q : Type 0) → (P → Q) → IfNone o P → IfNone o Q
none_weaker None P Q f p = f p
none_weaker (Some x) P Q f p = tt

pub some_weaker : {A : Type 0} (o : Option A) (P Q : A → Type 0) → ((x : A) → P x → Q x) → IfSome o P →
    IfSome o Q
some_weaker None P Q f p = tt
some_weaker (Some x) P Q f p = f x p

pub if_none : {A : Type 0} (o : Option A) (P : Type 0) → ((x : A) → o ≡ Some x → ⊥) → IfNone o P → P
if_none None P h p = p
if_none (Some x) P h p = absurd (h x refl)

pub if_some : {A : Type 0} (o : Option A) (x : A) (P : A → Type 0) → o ≡ Some x → IfSome o P → P x
if_some o x P e p = subst (λ y. IfSome y P) e p

-- ---- lists

pub prefix_empty : (a b : List ℕ) → a ++ b ≡ [] → a ≡ []
prefix_empty [] b e = refl
prefix_empty (x ∷ a) b e = absurd cc

pub back_empty : (a b : List ℕ) → a ++ b ≡ [] → b ≡ []
back_empty [] b e = e
back_empty (x ∷ a) b e = absurd cc

pub both_empty : (a b : List ℕ) → a ≡ [] → b ≡ [] → a ++ b ≡ []
both_empty a b e h = ap (λ (u : List ℕ). u ++ b) e ∙ h

-- the bytes before what is behind them
pub before : (bytes text rest : List ℕ) → bytes ≡ text ++ rest →
    take (length bytes - length rest) bytes ≡ text
before bytes text rest e =
    let long : length bytes ≡ length text + length rest = ap (λ (u : List ℕ). length u) e
    ∙ length-append text rest in
    ap (take (length bytes - length rest)) e
    ∙ take_at text rest (length bytes - length rest) (omega (arith, long))

-- ---- nothing is behind the text

whole : (bytes text rest : List ℕ) → bytes ≡ text ++ rest → rest ≡ [] → text ≡ bytes
whole bytes text rest parts e =
    sym (append-nil text) ∙ ap (λ (u : List ℕ). text ++ u) (sym e) ∙ sym parts

pub whole_stays :
    (R : Change) (bytes rest : List ℕ) → rest ≡ [] → KeepsPrefix R bytes rest → R bytes bytes []
whole_stays R bytes rest e s = subst (λ (u : List ℕ). R u u []) (whole bytes s.text rest s.parts e) s.stays

pub whole_changes : (R : Change) (bytes rest new : List ℕ) → rest ≡ [] → ChangesPrefix R bytes rest new →
    Changes R bytes new
whole_changes R bytes rest new e c =
    subst (λ (u : List ℕ). Changes R u new) (whole bytes c.text rest c.parts e) c.changes

-- ---- what is returned

-- the change by another relation, which follows
pub changes_weaker : (R S : Change) (text new : List ℕ) → ((names : List ℕ) → R text new names →
    S text new names) → Changes R text new → Changes S text new
changes_weaker R S text new f c =
    record { names = c.names; becomes = f c.names c.becomes; is_naming = c.is_naming }

-- what is new was returned, or a copy of the old text
pub turns : {A : Type 0} (o : Option A) (items : A → List ℕ) (R : Change) (text out : List ℕ) →
    IfNone o (R text text []) → IfSome o (λ x. Changes R text (items x)) →
    IfSome o (λ x. out ≡ items x) → IfNone o (out ≡ text) → TurnsInto R text out
turns None items R text out stays changes new copy =
    record { names = []; becomes = subst (λ (u : List ℕ). R text u []) (sym copy) stays }
turns (Some x) items R text out stays changes new copy =
    record {
      names = changes.names;
      becomes = subst (λ (u : List ℕ). R text u changes.names) (sym new) changes.becomes;
    }

-- ---- one text after another

change_is : (R : Change) (n m : ℕ) (a b c d e f : List ℕ) → n ≡ m → a ≡ b → c ≡ d → e ≡ f →
    ChangeAll R n a c e → ChangeAll R m b d f
change_is R n m a b c d e f same texts news names h =
    subst (λ (k : ℕ). ChangeAll R k b d f) same
    (subst (λ (u : List ℕ). ChangeAll R n u d f) texts
    (subst (λ (u : List ℕ). ChangeAll R n a u f) news (subst (λ (u : List ℕ). ChangeAll R n a c u) names h)))

pub change_on : (R : Change) (count : ℕ) (texts new names text more others : List ℕ) →
    ChangeAll R count texts new names → R text more others →
    ChangeAll R (count + 1) (texts ++ text) (new ++ more) (names ++ others)
change_on R _ _ _ _ text more others none r =
    change_is R 1 (0 + 1) (text ++ []) text (more ++ []) more (others ++ []) others (omega arith)
    (append-nil text) (append-nil more) (append-nil others) (next 0 text [] more [] others [] r none)
change_on R _ _ _ _ text more others (next count a b c d e f h hs) r =
    change_is R (suc (count + 1)) (suc count + 1) (a ++ (b ++ text)) ((a ++ b) ++ text) (c ++ (d ++ more))
    ((c ++ d) ++ more) (e ++ (f ++ others)) ((e ++ f) ++ others) (omega arith) (sym (append_assoc a b text))
    (sym (append_assoc c d more)) (sym (append_assoc e f others))
    (next (count + 1) a (b ++ text) c (d ++ more) e (f ++ others) h
    (change_on R count b d f text more others hs r))

pub first_behind : (R : Change) (F : List ℕ → Type 0) (count : ℕ) (texts new names : List ℕ) →
    ChangeAll R count texts new names → (total : ℕ) (rest : List ℕ) → count < total → F rest →
    FirstIn R F total (texts ++ rest)
first_behind R F _ _ _ _ none zero rest less f = absurd (omega (arith, less))
first_behind R F _ _ _ _ none (suc total) rest less f = here total rest f
first_behind R F _ _ _ _ (next count a b c d e g h hs) zero rest less f = absurd (omega (arith, less))
first_behind R F _ _ _ _ (next count a b c d e g h hs) (suc total) rest less f =
    subst (λ (u : List ℕ). FirstIn R F (suc total) u) (sym (append_assoc a b rest))
    (behind total a (b ++ rest) c e h (first_behind R F count b d g hs total rest (omega (arith, less)) f))

-- ---- the loop over several texts

pub changed_none : (R : Change) (header bytes rest out : List ℕ) → bytes ≡ header ++ rest → out ≡ [] →
    IsChangedUpTo R 0 header bytes rest bytes out
changed_none R header bytes rest out e o =
    record {
      texts = [];
      new = [];
      names = [];
      passed = header;
      so_far = none;
      parts = e;
      not_written = e;
      written = append-nil header ∙ ap (λ (u : List ℕ). u ++ header) (sym o);
      untouched = λ h. refl;
      nameless = λ h. refl;
      naming = λ h. o;
    }

pub changed_is : (R : Change) (count : ℕ) (bytes rest unwritten same out written : List ℕ) →
    unwritten ≡ same → out ≡ written → IsChangedUpTo R count [] bytes rest same written →
    IsChangedUpTo R count [] bytes rest unwritten out
changed_is R count bytes rest unwritten same out written e f w =
    subst (λ (u : List ℕ). IsChangedUpTo R count [] bytes rest u out) (sym e)
    (subst (λ (u : List ℕ). IsChangedUpTo R count [] bytes rest same u) (sym f) w)

pub changed_passed : (R : Change) (count : ℕ) (header bytes rest after unwritten out : List ℕ) →
    IsChangedUpTo R count header bytes rest unwritten out → KeepsPrefix R rest after →
    IsChangedUpTo R (count + 1) header bytes after unwritten out
changed_passed R count header bytes rest after unwritten out w s =
    record {
      texts = w.texts ++ s.text;
      new = w.new ++ s.text;
      names = w.names ++ [];
      passed = w.passed ++ s.text;
      so_far = change_on R count w.texts w.new w.names s.text s.text [] w.so_far s.stays;
      parts = w.parts ∙ ap (λ (u : List ℕ). header ++ u) (ap (λ (u : List ℕ). w.texts ++ u) s.parts
          ∙ sym (append_assoc w.texts s.text after));
      not_written = w.not_written ∙ ap (λ (u : List ℕ). w.passed ++ u) s.parts
          ∙ sym (append_assoc w.passed s.text after);
      written = sym (append_assoc header w.new s.text) ∙ ap (λ (u : List ℕ). u ++ s.text) w.written
          ∙ append_assoc out w.passed s.text;
      untouched = w.untouched;
      nameless = λ h. append-nil w.names ∙ w.nameless h;
      naming = λ h. w.naming (sym (append-nil w.names) ∙ h);
    }

-- where what was passed and the new text are written
pub changed_on : (R : Change) (count : ℕ) (header bytes rest after unwritten out new last : List ℕ)
    (w : IsChangedUpTo R count header bytes rest unwritten out) → ChangesPrefix R rest after new →
    (new ≡ [] → ⊥) → last ≡ (out ++ w.passed) ++ new → IsChangedUpTo R (count + 1) header bytes after after last
changed_on R count header bytes rest after unwritten out new last w c some is =
    let full : last ≡ [] → ⊥ = λ e. some (back_empty (out ++ w.passed) new (sym is ∙ e)) in
    record {
      texts = w.texts ++ c.text;
      new = w.new ++ new;
      names = w.names ++ c.changes.names;
      passed = [];
      so_far = change_on R count w.texts w.new w.names c.text new c.changes.names w.so_far c.changes.becomes;
      parts = w.parts ∙ ap (λ (u : List ℕ). header ++ u) (ap (λ (u : List ℕ). w.texts ++ u) c.parts
          ∙ sym (append_assoc w.texts c.text after));
      not_written = refl;
      written = sym (append_assoc header w.new new) ∙ ap (λ (u : List ℕ). u ++ new) w.written ∙ sym is
          ∙ sym (append-nil last);
      untouched = λ e. absurd (full e);
      nameless = λ e. absurd (full e);
      naming = λ e. absurd (c.changes.is_naming (back_empty w.names c.changes.names e));
    }

-- what is in front of the rest was passed
pub passed_before : (R : Change) (count : ℕ) (header bytes rest unwritten out mid : List ℕ)
    (w : IsChangedUpTo R count header bytes rest unwritten out) →
    mid ≡ out ++ take (length unwritten - length rest) unwritten → mid ≡ out ++ w.passed
passed_before R count header bytes rest unwritten out mid w e =
    e ∙ ap (λ (u : List ℕ). out ++ u) (before unwritten w.passed rest w.not_written)

-- nothing is written where no type was named
pub all_stayed : (R : Change) (count : ℕ) (bytes rest unwritten out : List ℕ) →
    IsChangedUpTo R count [] bytes rest unwritten out → out ≡ [] → KeepsPrefix (ChangeAll R count) bytes rest
all_stayed R count bytes rest unwritten out w e =
    let passed-is : w.passed ≡ w.texts = append_cancel_right w.passed w.texts rest
    (sym w.not_written ∙ w.untouched e ∙ w.parts) in
    let new-is : w.new ≡ w.texts = w.written ∙ ap (λ (u : List ℕ). u ++ w.passed) e ∙ passed-is in
    record {
      text = w.texts;
      parts = w.parts;
      stays = subst (λ (u : List ℕ). ChangeAll R count w.texts u []) new-is
          (subst (λ (u : List ℕ). ChangeAll R count w.texts w.new u) (w.nameless e) w.so_far);
    }

pub all_changed : (R : Change) (count : ℕ) (bytes rest unwritten out last : List ℕ) →
    IsChangedUpTo R count [] bytes rest unwritten out → (out ≡ [] → ⊥)
    → last ≡ out ++ take (length unwritten - length rest) unwritten →
    ChangesPrefix (ChangeAll R count) bytes rest last
all_changed R count bytes rest unwritten out last w some e =
    record {
      text = w.texts;
      parts = w.parts;
      changes = record {
        names = w.names;
        becomes = subst (λ (u : List ℕ). ChangeAll R count w.texts u w.names) (w.written
            ∙ sym (passed_before R count [] bytes rest unwritten out last w e)) w.so_far;
        is_naming = λ h. some (w.naming h);
      };
    }

pub changed_first : (R : Change) (F : List ℕ → Type 0) (count taken : ℕ)
    (bytes rest unwritten out : List ℕ) → IsChangedUpTo R taken [] bytes rest unwritten out → taken < count →
    F rest → FirstIn R F count bytes
changed_first R F count taken bytes rest unwritten out w less f =
    subst (λ (u : List ℕ). FirstIn R F count u) (sym w.parts)
    (first_behind R F taken w.texts w.new w.names w.so_far count rest less f)
