use Rattle.walrus_types.proofs.Emission.{WrittenAgain.never_missing, WrittenFew.written_few}
use Rattle.walrus_types.proofs.laws.read_table_can_be_written.Goals as goal

pub returns-clause-named : goal.returns-clause-named
returns-clause-named c = λ s t ids name has. never_missing s t ids has name

pub returns-clause-few : goal.returns-clause-few
returns-clause-few c = written_few
