use Rattle.ir_instr.proofs.LocalHashes.{locals_hash}
use Rattle.ir_instr.proofs.laws.local_hashes_agree.Goals as goal

pub returns : goal.returns
returns c = locals_hash
