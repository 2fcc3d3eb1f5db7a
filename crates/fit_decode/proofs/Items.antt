-- A record that is whole in a piece: what its bytes leave in a decoder.
use Rattle.fit_decode.proofs.Common.{◌≡◌, ◌++◌, ◌<◌, cond, ℕ, List, take, refl, sym, ap, ◌∙◌, arith, Some, Ok, IsBytes, ne_eqb, Position, Reads, Inside}
use Rattle.fit_decode.proofs.Common.{IsSoundDecoder, fields_inside, InSection, ClosingSum, section_of, Record, Environment, refusal_of}
use Rattle.fit_chain.specs.declared.event.Event.TheVariants.{Item}
use Rattle.fit_decode.proofs.Advancing.{at_section}
use Rattle.fit_decode.proofs.Sections.{data_fed}
use Rattle.fit_decode.proofs.Feeding.{Took, takes}

-- after a record with which the section isn't over, it goes on
pub record_taken : {A : Type 0} (d : Inside A) → IsSoundDecoder d → d.stage.section ≡ InSection → (piece : List ℕ) → IsBytes piece
    → (env : Environment A) (position : Position) (used : ℕ) (r : Record A)
    → Reads d.env d.position d.in_progress env position d.in_progress piece used (Ok (Some r)) → 0 < position.room
    → Took d (record d { env = env; position = position; sum = d.sum ++ take used piece }) piece used (Ok (Item r))
record_taken d k at piece low env position used r reads some =
    let in_data : section_of position.room ≡ InSection =
    ap (λ c. cond c ClosingSum InSection) (ne_eqb position.room 0 (λ over. omega (arith, over, some))) in
    takes k (ap refusal_of at) low (data_fed (fields_inside d) at d.history.items piece (at_section k at) k.are low d.stage env position d.in_progress
    (d.sum ++ take used piece) used (Ok (Item r)) (reads, refl, ap (λ s. record d.stage { section = s }) (at ∙ sym in_data))) refl refl
