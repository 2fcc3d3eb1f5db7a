-- What a reporter skips: one data message, or nothing.
use Rattle.fit_report.proofs.Common.{◌≡◌, ◌∙◌, ◌++◌, ◌∷◌, [], ◌<◌, ◌≤◌, ℕ, List, Some, length, reverse, refl, sym, ap, subst, take, arith, append-nil}
use Rattle.fit_report.proofs.Common.{reverse-append, Global, AreEvents, Event, item, Seen, Lines, Skips, text_of}
use Rattle.fit_chain.specs.Events.{known_after}
use Rattle.fit_frame.specs.declared.reason.Reason.{Reason}
use Rattle.fit_record.specs.Records.{IsRecord}
use Rattle.fit_record.specs.declared.message.Record.TheVariants.{Values as Data}
use Rattle.fit_record.specs.declared.message.Values.{Values}

module _ {R : Type 0} (has : R → List (Event Global) → Type 0) (line : Lines Global) (old new : Seen) (piece : List ℕ) (used : ℕ)
    (fed : new ≡ record old { bytes = old.bytes ++ take used piece })
    (refused : (reason : Reason) → old.refusal ≡ Some reason → (used ≡ 0) × (new ≡ old)) where
  pub skips_nothing : (r : R) (text : List ℕ) → used ≡ 0 → Skips has line old new piece r r text text 0
  skips_nothing r text none =
      let is = fed ∙ ap (λ n. record old { bytes = old.bytes ++ take n piece }) none in
      record {
        within = omega arith;
        is_fed = is;
        refused = λ reason h. (refl, (refused reason h).1, refl, refl);
        told = λ heard here are. (
          heard,
          here,
          subst (λ b. AreEvents b (reverse heard)) (sym (ap (λ (s : Seen). s.bytes) is ∙ append-nil old.bytes)) are,
          [],
          sym (append-nil text),
          sym (append-nil (text_of line heard)),
        );
      }

  pub skips_message : (before after : R) (old_text new_text : List ℕ) → 0 < used → used ≤ length piece
      → ((events : List (Event Global)) → AreEvents old.bytes events
      → (v : Values Global) × IsRecord (known_after events) (Data v) (take used piece) × AreEvents new.bytes (events ++ (item (Data v) ∷ [])))
      → ((heard : List (Event Global)) (v : Values Global) → has before heard → IsRecord (known_after (reverse heard)) (Data v) (take used piece)
      → has after (item (Data v) ∷ heard) × (new_text ≡ old_text ++ line heard (item (Data v))))
      → Skips has line old new piece before after old_text new_text used
  skips_message before after old_text new_text some within message takes = record {
    within = within;
    is_fed = fed;
    refused = λ reason h. let none = (refused reason h).0 in absurd (omega (arith, some, none));
    told = λ heard here are.
        let m = message (reverse heard) are in
        let t = takes heard m.0 here m.1 in (
          item (Data m.0) ∷ heard,
          t.0,
          subst (λ events. AreEvents new.bytes events) (sym (reverse-append (item (Data m.0) ∷ []) heard)) m.2,
          line heard (item (Data m.0)),
          t.1,
          refl,
        );
  }
