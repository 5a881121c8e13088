use Rattle.std.proofs.Common.{◌≡◌, ◌+◌, ◌++◌, replicate, vec_len, vec_capacity}
use Rattle.walrus_types.proofs.table.rec_group.push_all.Given as goal

abbrev pub invariant-loop : goal.invariant-loop
invariant-loop l = record {
  pushed : l.numbers.items ≡ l.fn.numbers.items ++ replicate l.counter l.number;
  many : vec_len l.numbers ≡ vec_len l.fn.numbers + l.counter;
  room : vec_capacity l.numbers ≡ vec_capacity l.fn.numbers;
}
