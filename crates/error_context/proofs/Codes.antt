-- A place has one code at most.
use Rattle.std.proofs.Common.{◌≡◌, ℕ, List}
use Rattle.error_context.specs.declared.proposal.Code.{Code}
use Rattle.error_context.specs.declared.proposal.Code.TheVariants as code
use Rattle.error_context.specs.Proposals.{IsCodeAt}

pub one_code : (bytes : List ℕ) (place : ℕ) (a b : Code) → IsCodeAt a bytes place → IsCodeAt b bytes place →
    a ≡ b
one_code bytes place (code.Byte x) (code.Byte y) h k = cc
one_code bytes place (code.Byte x) (code.Prefixed p n) h k = absurd (h.0.1 p k.0.1 k.0.2)
one_code bytes place (code.Prefixed p n) (code.Byte y) h k = absurd (k.0.1 p h.0.1 h.0.2)
one_code bytes place (code.Prefixed p n) (code.Prefixed q m) h k = cc
