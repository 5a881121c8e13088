-- Contents of sections with other indices of types.
use Rattle.std.proofs.Common.{◌≡◌, ℕ, List, ◌∙◌, Option, Some, None, sym}
use Rattle.wasm_module.specs.declared.kind.Kind.{Kind}
use Rattle.wasm_module.specs.declared.renaming.Widths.{Widths}
use Rattle.wasm_module.specs.declared.scan.ScanError.TheVariants as scan
use Rattle.wasm_module.specs.Changes.{IsMalformed}
use Rattle.wasm_module.specs.Contents.{section_kinds}
use Rattle.wasm_module.specs.NamedTypes.{IsContent, IsNoContent}
use Rattle.wasm_module.specs.NamedTypes.IsContent.{texts as is_texts, nameless as is_nameless}
use Rattle.wasm_module.specs.RenamedSections.{RenamesContent}
use Rattle.wasm_module.specs.RenamedSections.RenamesContent.{texts, code, nameless}
use Rattle.wasm_module.specs.Steps.Heads.{kinds_or_none}
use Rattle.wasm_module.specs.Renaming.{NewIndices}
use Rattle.wasm_module.proofs.ChangedCode.{is_code}
use Rattle.wasm_module.proofs.NamedTypes.{some_kinds, content_code}

-- the kinds of a row, where there are some
pub kinds_of : (id : ℕ) (o : Option (List Kind)) → o ≡ section_kinds id → (o ≡ None → ⊥) →
    section_kinds id ≡ Some (kinds_or_none o)
kinds_of id o e some = sym e ∙ some_kinds o some

-- what has a change is a content, which names these types
is_content : (id : ℕ) (new_indices : NewIndices) (w : Widths) (content new names : List ℕ) →
    RenamesContent id new_indices w content new names → IsContent id content names
is_content id new_indices w _ _ _ (texts kinds content new names e r) =
    is_texts id kinds content names e r.naming
is_content id new_indices w _ _ _ (code content new names e r) =
    content_code id content names e (is_code new_indices w content new names r)
is_content id new_indices w _ _ _ (nameless content none other) = is_nameless id content none other

pub malformed_content : (id place : ℕ) (content : List ℕ) → IsNoContent id content (scan.Malformed place) →
    IsMalformed (RenamesContent id) content
malformed_content id place content h new_indices w new names r =
    h names (is_content id new_indices w content new names r)
