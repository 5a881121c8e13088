-- Arguments that are taken one by one.
use Rattle.std.proofs.Common.{◌≡◌, ℕ, List, [], ◌∷◌, ◌++◌, map, codes, inr, refl, ap, sym, ◌∙◌, subst, append_assoc, append-nil}
use Rattle.std.specs.List.{All, flat_map}
use Rattle.std.proofs.lemmas.List.{flat_map_more}
use Rattle.std.proofs.lemmas.List.Elements.{All-push}
use Rattle.command_line.specs.declared.arguments.Request.{Request}
use Rattle.command_line.specs.declared.arguments.Request.TheVariants as request
use Rattle.command_line.specs.Arguments.{
  Item,
  name,
  option,
  value,
  Options,
  IsItem,
  IsName,
  IsOneOf,
  IsOther,
  IsWithoutWork,
  AsksFor,
  arguments_of,
  names_of,
  options_of,
  values_of,
}

-- the arguments are items, which ask for these names, options and values, and then what is left
pub record IsTaken (options : Options) (arguments names given : List (List ℕ))
    (values : List (List ℕ × List ℕ)) (left : List (List ℕ)) : Type 0 where
  pub items : List Item
  pub known : All (IsItem options) items
  pub split : arguments ≡ flat_map arguments_of items ++ left
  pub named : names ≡ flat_map names_of items
  pub opted : given ≡ flat_map options_of items
  pub valued : values ≡ flat_map values_of items

seam : {A : Type 0} (f : Item → List A) (items : List Item) (i : Item) (rest : List A) →
    flat_map f items ++ (f i ++ rest) ≡ flat_map f (items ++ i ∷ []) ++ rest
seam f items i rest = sym (append_assoc (flat_map f items) (f i) rest) ∙ ap (λ k. k ++ rest) (flat_map_more f [] items i)

nothing_more : {A : Type 0} (f : Item → List A) (items : List Item) (i : Item) (all : List A) →
    f i ≡ [] → all ≡ flat_map f items → all ≡ flat_map f (items ++ i ∷ [])
nothing_more f items i all none h =
    h ∙ sym (append-nil (flat_map f items)) ∙ ap (λ k. flat_map f items ++ k) (sym none) ∙ flat_map_more f [] items i

module _ {options : Options} {arguments names given : List (List ℕ)} {values : List (List ℕ × List ℕ)}
    {left : List (List ℕ)} (taken : IsTaken options arguments names given values left) where
  pub option_taken : (o : List ℕ) (rest more : List (List ℕ)) → left ≡ o ∷ rest → IsOneOf options.own o →
      more ≡ given ++ o ∷ [] → IsTaken options arguments names more values rest
  option_taken o rest more is own one_more = let i = option o in record {
    items = taken.items ++ i ∷ [];
    known = All-push (IsItem options) taken.items i taken.known own;
    split = taken.split ∙ ap (λ k. flat_map arguments_of taken.items ++ k) is ∙ seam arguments_of taken.items i rest;
    named = nothing_more names_of taken.items i names refl taken.named;
    opted = one_more ∙ ap (λ k. k ++ o ∷ []) taken.opted ∙ flat_map_more options_of [] taken.items i;
    valued = nothing_more values_of taken.items i values refl taken.valued;
  }

  pub value_taken : (o v : List ℕ) (rest : List (List ℕ)) (more : List (List ℕ × List ℕ)) → left ≡ o ∷ v ∷ rest →
      (¬ IsOneOf options.own o) → IsOneOf options.valued o → more ≡ values ++ (o, v) ∷ [] →
      IsTaken options arguments names given more rest
  value_taken o v rest more is not_own has_value one_more = let i = value o v in record {
    items = taken.items ++ i ∷ [];
    known = All-push (IsItem options) taken.items i taken.known (not_own, has_value);
    split = taken.split ∙ ap (λ k. flat_map arguments_of taken.items ++ k) is ∙ seam arguments_of taken.items i rest;
    named = nothing_more names_of taken.items i names refl taken.named;
    opted = nothing_more options_of taken.items i given refl taken.opted;
    valued = one_more ∙ ap (λ k. k ++ (o, v) ∷ []) taken.valued ∙ flat_map_more values_of [] taken.items i;
  }

  pub name_taken : (n : List ℕ) (rest more : List (List ℕ)) → left ≡ n ∷ rest → (¬ IsOneOf options.own n) →
      (¬ IsOneOf options.valued n) → IsName n → more ≡ names ++ n ∷ [] →
      IsTaken options arguments more given values rest
  name_taken n rest more is not_own not_valued is_name one_more = let i = name n in record {
    items = taken.items ++ i ∷ [];
    known = All-push (IsItem options) taken.items i taken.known (not_own, not_valued, is_name);
    split = taken.split ∙ ap (λ k. flat_map arguments_of taken.items ++ k) is ∙ seam arguments_of taken.items i rest;
    named = one_more ∙ ap (λ k. k ++ n ∷ []) taken.named ∙ flat_map_more names_of [] taken.items i;
    opted = nothing_more options_of taken.items i given refl taken.opted;
    valued = nothing_more values_of taken.items i values refl taken.valued;
  }

  -- what an argument asks for that no item begins with
  pub other_asks : (argument : List ℕ) (more : List (List ℕ)) (asked : Request) → left ≡ argument ∷ more →
      IsOther options argument → (¬ (argument ≡ codes "--")) → IsWithoutWork argument asked →
      AsksFor options arguments asked
  other_asks argument more request.Help is other not_dashes h = record {
    items = taken.items;
    known = taken.known;
    rest = left;
    split = taken.split;
    asks = (more, is ∙ ap (λ k. k ∷ more) h, subst (IsOther options) h other);
  }
  other_asks argument more request.Version is other not_dashes h = record {
    items = taken.items;
    known = taken.known;
    rest = left;
    split = taken.split;
    asks = (more, is ∙ ap (λ k. k ∷ more) h, subst (IsOther options) h other);
  }
  other_asks argument more (request.Work all own having) is other not_dashes h = absurd h
  other_asks argument more request.Usage is other not_dashes h = record {
    items = taken.items;
    known = taken.known;
    rest = left;
    split = taken.split;
    asks = (argument, more, is, inr (other, not_dashes, h.0, h.1));
  }
  other_asks argument more request.NotUtf8 is other not_dashes h = absurd h
