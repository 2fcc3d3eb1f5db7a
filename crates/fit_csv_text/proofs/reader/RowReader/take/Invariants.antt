use Rattle.std.proofs.Common.{◌≡◌, ◌++◌, [], drop, List, ℕ}
use Rattle.csv.specs.Records.{partial_of}
use Rattle.fit_csv_text.specs.inner.RowReads.{read_on}
use Rattle.fit_csv_text.proofs.reader.RowReader.take.Given as goal

abbrev pub invariant-loop-i : goal.invariant-loop-i
invariant-loop-i l = record {
  begun : partial_of l.self.row ≡ [];
  reads : (more : List ℕ) → read_on l.fn.self (l.text ++ more) ≡ read_on l.self (drop l.i l.text ++ more);
}
