-- A member of a written group, put together.
use Rattle.std.proofs.Common.{ℕ}
use Rattle.walrus_sections.specs.Emission.{TableView, IsMember, IsWritten, WrittenMember}

abbrev pub written_member :
    {table : TableView} → {g u i : ℕ} → IsWritten table g → IsMember table.groups g u i →
    WrittenMember table
written_member {table} {g} {u} {i} written member = record {
  group = g;
  place = u;
  id = i;
  is_member = member;
  is_written = written;
}
