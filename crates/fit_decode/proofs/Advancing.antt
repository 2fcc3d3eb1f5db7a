-- What the fields are in each section, and what the functions of the sections require.
use Rattle.fit_decode.proofs.Common.{◌≡◌, ◌-◌, ◌<◌, [], length, sym, ap, ◌∙◌, subst, arith, None, append-nil, header_bytes, empty_environment, records_bytes}
use Rattle.fit_decode.proofs.Common.{chain_limit, AwaitsByte, Section, Data, ClosingSum, IsHeaderPart, HoldsAt, no_header_in}
use Rattle.fit_decode.proofs.Common.{Inside, IsSoundDecoder, fields_inside}
use Rattle.fit_frame.specs.Beginning.{Seen}
use Rattle.fit_decode.specs.declared.section.Section.TheVariants.{Header}

module _ {A : Type 0} {d : Inside A} (k : IsSoundDecoder d) where
  pub at_section : {s : Section} → d.stage.section ≡ s → HoldsAt s (fields_inside d) d.history.items
  at_section at = subst (λ c. HoldsAt c (fields_inside d) d.history.items) at k.holds

  pub header_fresh : d.stage.section ≡ Header → d.reader.refusal ≡ None
  header_fresh at = ap (λ (r : Seen). r.refusal) (at_section at).read

  pub header_open : d.stage.section ≡ Header → IsHeaderPart d.reader.bytes
  header_open at =
      let h = at_section at in
      let same : d.sum ≡ d.reader.bytes = sym (ap (λ (r : Seen). r.bytes) h.read) in
      subst IsHeaderPart same (
        h.goes.2,
        λ whole. no_header_in A d.sum h.come.next whole.header whole.data_size [] whole.is.0.0
            (whole.is.0.1 ∙ sym (append-nil (header_bytes whole.header whole.data_size))),
      )

  pub data_reading : d.stage.section ≡ Data → AwaitsByte d.env d.position d.in_progress
  data_reading at = let h = at_section at in (h.size - length (records_bytes empty_environment h.records), h.part, h.some, h.in_record)

  pub sum_few : d.stage.section ≡ ClosingSum → d.stage.files < chain_limit
  sum_few at = let h = at_section at in omega (arith, h.few, h.counted)
