use Rattle.walrus_types.proofs.Emission.WrittenAgain.{each_indexed, normal_again}
use Rattle.walrus_types.proofs.laws.read_table_is_written.Goals as goal

pub returns-clause-normal : goal.returns-clause-normal
returns-clause-normal c = λ s t ids out x has em. normal_again s t ids has out x em

pub returns-clause-indexed : goal.returns-clause-indexed
returns-clause-indexed c = λ s t ids out x has em. each_indexed s t ids has out x em
