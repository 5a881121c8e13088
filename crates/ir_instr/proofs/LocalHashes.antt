-- The parts of a local are read back from what `Hash` is fed of it.
use Rattle.std.proofs.Common.{◌≡◌, ℕ, ◌<◌, ◌^◌, List, [], ◌∷◌, ◌++◌, Option, Some, None, refl, ap, sym, ◌∙◌, append_assoc, IfSome}
use Rattle.std.specs.Hash.{HashWrites}
use Rattle.std.specs.Hash as fed
use Rattle.std.specs.declared.string.String.{String}
use Rattle.std.specs.declared.alloc.Global.{Global}
use Rattle.walrus_ty.specs.declared.ty.value.Val.{Val}
use Rattle.walrus_ty.specs.HashInput.{HashesBy, Fits}
use Rattle.walrus_ty.specs.Value.{val_name}
use Rattle.walrus_ty.proofs.Hashes.Ids.{val_input, val_read, val_back}
use Rattle.walrus_ty.proofs.Hashes.Parts.{Read, Got, bind, rest, ReadsBack, apart, option_read, option_back, id_read, id_back}
use Rattle.ir_instr.specs.contracts.locals.LocalHash.TheImpl as local_hash
use Rattle.ir_instr.specs.LocalParts.{LocalParts, local_parts}
use Rattle.ir_instr.specs.Locals.{LocalVariable}

abbrev local_input : LocalVariable → HashWrites
local_input = (local_hash.ghosts).hash_input

abbrev parts_input : LocalParts → HashWrites
parts_input p = fed.usize p.id ++ (val_input p.ty ++ fed.option fed.str p.name)

abbrev local : ℕ → Val ℕ → Option (String Global) → LocalVariable
local i v o = record { id = i; ty = v; name = o }

input_of : (i : ℕ) (v : Val ℕ) (o : Option (String Global)) →
    local_input (local i v o) ≡ parts_input (local_parts (local i v o))
input_of i v None = refl
input_of i v (Some s) = refl

input_is : (l : LocalVariable) → local_input l ≡ parts_input (local_parts l)
input_is l = input_of l.id l.ty l.name

-- a text is one write, and then a mark

abbrev first : HashWrites → List ℕ
first [] = []
first (w ∷ ws) = w

abbrev text_read : HashWrites → Read (List ℕ)
text_read ws = Got (first ws) (rest (rest ws))

text_back : ReadsBack (λ t. t ≡ t) fed.str text_read
text_back t h ts = refl

any_text : (o : Option (List ℕ)) → IfSome o (λ t. t ≡ t)
any_text None = tt
any_text (Some t) = refl

abbrev parts : ℕ → Val ℕ → Option (List ℕ) → LocalParts
parts i v o = record { id = i; ty = v; name = o }

abbrev after_ty : ℕ → Val ℕ → HashWrites → Read LocalParts
after_ty i v ws = bind (option_read text_read ws) (λ o us. Got (parts i v o) us)

abbrev after_id : ℕ → HashWrites → Read LocalParts
after_id i ws = bind (val_read ws) (after_ty i)

abbrev parts_read : HashWrites → Read LocalParts
parts_read ws = bind (id_read ws) after_id

abbrev PartsFit : LocalParts → Type 0
PartsFit p = (p.id < 2 ^ 64) × Fits 64 (val_name p.ty)

parts_back : ReadsBack PartsFit parts_input parts_read
parts_back p h ts =
    let name : HashWrites = fed.option fed.str p.name in
    ap (λ ws. parts_read (fed.usize p.id ++ ws)) (append_assoc (val_input p.ty) name ts)
    ∙ (ap (λ q. bind q after_id) (id_back p.id h.0 (val_input p.ty ++ (name ++ ts)))
    ∙ (ap (λ q. bind q (after_ty p.id)) (val_back p.ty h.1 (name ++ ts))
    ∙ ap (λ q. bind q (λ o us. Got (parts p.id p.ty o) us))
    (option_back (λ t. t ≡ t) fed.str text_read text_back p.name (any_text p.name) ts)))

pub locals_hash : HashesBy local_parts (λ l. (l.id < 2 ^ 64) × Fits 64 (val_name l.ty)) local_input
locals_hash = record {
  alike = λ l m e. input_is l ∙ (ap parts_input e ∙ sym (input_is m));
  apart = λ l m f g e. apart PartsFit parts_input parts_read parts_back (local_parts l) (local_parts m) f g
      (sym (input_is l) ∙ (e ∙ input_is m));
}
