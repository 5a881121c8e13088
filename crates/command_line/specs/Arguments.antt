-- What the arguments of a program ask for: `AsksFor`.
use Rattle.std.specs.Prelude.{◌≡◌, ◌⊎◌, ℕ, ◌==◌, List, [], ◌∷◌, ◌++◌, map, if◌then◌else◌, All, codes}
use Rattle.std.specs.List.{Any, flat_map}
use Rattle.std.specs.Borrow.{Bor}
use Rattle.std.specs.String.{string_bytes}
use Rattle.command_line.specs.declared.arguments.OptionValue.{OptionValue}
use Rattle.command_line.specs.declared.arguments.Request.{Request}
use Rattle.command_line.specs.declared.arguments.Request.TheVariants as request

-- the byte `-`
abbrev pub dash : ℕ
dash = 45

-- the argument is the name of a file, or the name `-`: none that begins with `-` and is longer
abbrev pub IsName : List ℕ → Type 0
IsName [] = Unit {0}
IsName (b ∷ []) = Unit {0}
IsName (b ∷ c ∷ bytes) = ¬ (b ≡ dash)

-- an argument behind `--`, as the name of a file
abbrev pub file_name : List ℕ → List ℕ
file_name [] = []
file_name (b ∷ []) = b ∷ []
file_name (b ∷ c ∷ bytes) = if b == dash then codes "./" ++ b ∷ c ∷ bytes else b ∷ c ∷ bytes

-- the argument is one of these options
abbrev pub IsOneOf : List (Bor (List ℕ)) → List ℕ → Type 0
IsOneOf options argument = Any (λ option. option.now ≡ argument) options

-- arguments that ask for a part of the work: a name, an option, or an option with its value
pub data Item : Type 0 where
  name : List ℕ → Item
  option : List ℕ → Item
  value : List ℕ → List ℕ → Item

abbrev pub arguments_of : Item → List (List ℕ)
arguments_of (name n) = n ∷ []
arguments_of (option o) = o ∷ []
arguments_of (value o v) = o ∷ v ∷ []

abbrev pub names_of : Item → List (List ℕ)
names_of (name n) = n ∷ []
names_of (option o) = []
names_of (value o v) = []

abbrev pub options_of : Item → List (List ℕ)
options_of (name n) = []
options_of (option o) = o ∷ []
options_of (value o v) = []

abbrev pub values_of : Item → List (List ℕ × List ℕ)
values_of (name n) = []
values_of (option o) = []
values_of (value o v) = (o, v) ∷ []

-- the options of a program: those without a value, and those that have one
pub record Options : Type 0 where
  pub own : List (Bor (List ℕ))
  pub valued : List (Bor (List ℕ))

abbrev pub IsItem : Options → Item → Type 0
IsItem options (name n) = (¬ IsOneOf options.own n) × (¬ IsOneOf options.valued n) × IsName n
IsItem options (option o) = IsOneOf options.own o
IsItem options (value o v) = (¬ IsOneOf options.own o) × IsOneOf options.valued o

-- no item begins with the argument
abbrev pub IsOther : Options → List ℕ → Type 0
IsOther options argument =
    (¬ IsOneOf options.own argument) × (¬ IsOneOf options.valued argument) × (¬ IsName argument)

-- an option lacks its value, or the argument is none that any program knows
abbrev pub IsWrong : Options → List ℕ → List (List ℕ) → Type 0
IsWrong options argument more =
    ((¬ IsOneOf options.own argument) × IsOneOf options.valued argument × (more ≡ [])) ⊎
    (IsOther options argument × (¬ (argument ≡ codes "--")) × (¬ (argument ≡ codes "--help")) ×
    (¬ (argument ≡ codes "--version")))

abbrev pub value_bytes : OptionValue → List ℕ × List ℕ
value_bytes v = (string_bytes v.option, string_bytes v.value)

-- what items ask for, with these arguments behind them
abbrev pub AsksAfter : Options → List Item → List (List ℕ) → Request → Type 0
AsksAfter options items rest request.Help =
    (more : List (List ℕ)) × (rest ≡ codes "--help" ∷ more) × IsOther options (codes "--help")
AsksAfter options items rest request.Version =
    (more : List (List ℕ)) × (rest ≡ codes "--version" ∷ more) × IsOther options (codes "--version")
AsksAfter options items rest (request.Work names given values) =
    (more : List (List ℕ)) ×
    (((rest ≡ []) × (more ≡ [])) ⊎ ((rest ≡ codes "--" ∷ more) × IsOther options (codes "--"))) ×
    (map string_bytes names.items ≡ flat_map names_of items ++ map file_name more) ×
    (map string_bytes given.items ≡ flat_map options_of items) ×
    (map value_bytes values.items ≡ flat_map values_of items)
AsksAfter options items rest request.Usage =
    (argument : List ℕ) × (more : List (List ℕ)) × (rest ≡ argument ∷ more) ×
    IsWrong options argument more
AsksAfter options items rest request.NotUtf8 = ⊥

-- the arguments are items, and what is behind them decides
pub record AsksFor (options : Options) (arguments : List (List ℕ)) (asked : Request) : Type 0 where
  pub items : List Item
  pub known : All (IsItem options) items
  pub rest : List (List ℕ)
  pub split : arguments ≡ flat_map arguments_of items ++ rest
  pub asks : AsksAfter options items rest asked

-- what an argument asks for that no item begins with, and that is not `--`
abbrev pub IsWithoutWork : List ℕ → Request → Type 0
IsWithoutWork argument request.Help = argument ≡ codes "--help"
IsWithoutWork argument request.Version = argument ≡ codes "--version"
IsWithoutWork argument (request.Work names given values) = ⊥
IsWithoutWork argument request.Usage = (¬ (argument ≡ codes "--help")) × (¬ (argument ≡ codes "--version"))
IsWithoutWork argument request.NotUtf8 = ⊥
