-- The next row of a reader.
use Rattle.fit_cells.proofs.Common.{◌≡◌, ◌∙◌, ℕ, List, Bool, true, false, Bor, Some, inl, ReadRecord, default_config, is_flexible, reader_state, strip_bom}
use Rattle.fit_cells.proofs.Common.{took_first, Follows, HasRead, Row}
use Rattle.csv.specs.declared.reader.Reader.{Reader}
use Rattle.csv.proofs.ReadFacts.{rows-end, rows-more}
use Rattle.csv.specs.declared.parser.State.TheVariants as st

pub next : (a b : Reader (Bor (List ℕ))) (found : Bool) (row : Row) (text : List ℕ) (rows : List Row) → HasRead text rows a
    → ReadRecord (λ s. Some s.now) a b found row → took_first b ≡ true → is_flexible b ≡ is_flexible a → Follows found row text rows b
next a b true row text rows h r first same =
    let (y, source, reached) = h.place in
    let (z, at_z, more) = rows-more (λ (s : Bor (List ℕ)). Some s.now) a b row default_config st.StartRecord (strip_bom text) y rows h.config source reached r
    in
    record { flexible = same ∙ h.flexible; trim = r.3 ∙ h.trim; ready = inl first; config = r.2 ∙ h.config; place = (z, at_z, more) }
next a b false row text rows h r first same =
    let (y, source, reached) = h.place in
    (reader_state a, y, reached, rows-end (λ (s : Bor (List ℕ)). Some s.now) a b row default_config y h.config source r)
