-- A definition that the reporter takes in.
use Rattle.std.proofs.Common.{◌≡◌, ◌∙◌, ◌+◌, ◌%◌, ◌^◌, ◌++◌, ◌∷◌, ℕ, List, length, sym, ap}
use Rattle.std.specs.Global.{Global}
use Rattle.std.specs.Prelude.{slice_set}
use Rattle.fit_chain.specs.Events.{item}
use Rattle.fit_profile.specs.Described.{namings_at}
use Rattle.fit_profile.specs.Looks.{known}
use Rattle.fit_record.specs.Environment.{defined_by}
use Rattle.fit_record.specs.Records.{record_bytes}
use Rattle.fit_record.specs.declared.definition.MessageDef.{MessageDef}
use Rattle.fit_record.specs.declared.message.Record.{Record}
use Rattle.fit_record.specs.declared.message.Record.TheVariants.{Define}
use Rattle.fit_messages.specs.Blocks.{definition_block}
use Rattle.fit_messages.specs.Kept.{KeptHeard}
use Rattle.fit_messages.specs.inner.Telling.{block_next, kept_next}

module _ (old_kept kept : KeptHeard) (r : Record Global) (d : MessageDef Global) (stream : List (Record Global)) (view : old_kept ≡ kept) (same : r ≡ Define d)
    (taken : stream ≡ r ∷ old_kept.records) where
  pub definition_kept : (n : ℕ) → n ≡ length (record_bytes (known old_kept.records) r)
      → record {
        records = stream;
        files = old_kept.files;
        definitions = old_kept.definitions + 1;
        numbers = slice_set old_kept.numbers d.local old_kept.definitions;
        place = (old_kept.place + n) % 2 ^ 64;
      } ≡ kept_next kept (item r)
  definition_kept n long =
      let next : stream ≡ Define d ∷ old_kept.records = taken ∙ ap (λ x. x ∷ old_kept.records) same in
      let more : n ≡ length (record_bytes (known old_kept.records) (Define d)) = long ∙ ap (λ x. length (record_bytes (known old_kept.records) x)) same in
      let first : record {
        records = stream;
        files = old_kept.files;
        definitions = old_kept.definitions + 1;
        numbers = slice_set old_kept.numbers d.local old_kept.definitions;
        place = (old_kept.place + n) % 2 ^ 64;
      } ≡ kept_next old_kept (item (Define d)) = λ i. record {
        records = next i;
        files = old_kept.files;
        definitions = old_kept.definitions + 1;
        numbers = slice_set old_kept.numbers d.local old_kept.definitions;
        place = (old_kept.place + more i) % 2 ^ 64;
      } in
      first ∙ ap (λ x. kept_next old_kept (item x)) (sym same) ∙ ap (λ k. kept_next k (item r)) view

  pub definition_told : (old new : List ℕ)
      → new ≡ old ++ definition_block old_kept.files old_kept.place old_kept.definitions (defined_by (known old_kept.records) d) (namings_at stream d.local)
      → new ≡ old ++ block_next kept (item r)
  definition_told old new put =
      let next : stream ≡ Define d ∷ old_kept.records = taken ∙ ap (λ x. x ∷ old_kept.records) same in
      put
      ∙ ap (λ xs. old ++ definition_block old_kept.files old_kept.place old_kept.definitions (defined_by (known old_kept.records) d)
      (namings_at xs d.local)) next
      ∙ ap (λ x. old ++ block_next old_kept (item x)) (sym same) ∙ ap (λ k. old ++ block_next k (item r)) view
