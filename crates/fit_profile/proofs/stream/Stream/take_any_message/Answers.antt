use Rattle.fit_profile.proofs.Common.{◌∙◌, ◌∷◌, [], Some, sym, ap, subst, reverse, reverse-append, KeepsRecords, described_by}
use Rattle.fit_record.specs.Records.{IsRecord}
use Rattle.fit_record.specs.declared.message.Record.TheVariants.{Values as Data}
use Rattle.fit_profile.specs.inner.Plans.{ArePlanned}
use Rattle.fit_profile.proofs.Kept.{kept-record, keeps-next, keeps-same, last-now}
use Rattle.fit_profile.proofs.TakenMessages.{planned_after, record_after, said_is_told}
use Rattle.fit_profile.proofs.stream.Stream.take_any_message.Goals as goal

pub said_in-said-requires : goal.said_in-said-requires
said_in-said-requires c = record {
  plans = c.self.invariant.1;
  message = (c.requires.0, kept-record c.args.self.now (Data c.requires.0) c.args.bytes.now c.self.invariant.0 c.self.view_is c.requires.1);
}

pub take_in_bytes-requires : goal.take_in_bytes-requires
take_in_bytes-requires c =
    (c.requires.0, kept-record c.args.self.now (Data c.requires.0) c.args.bytes.now c.self.invariant.0 c.self.view_is c.requires.1)

pub add_bytes-requires : goal.add_bytes-requires
add_bytes-requires c =
    let e = c.self.inside.env in
    let v = c.requires.0 in
    let is = kept-record c.args.self.now (Data v) c.args.bytes.now c.self.invariant.0 c.self.view_is c.requires.1 in (
      v,
      subst (λ x. IsRecord x (Data v) c.args.bytes.now) (sym (c.in_ok-take_in_bytes.ensures.learned v is))
          (record_after e (described_by e v) v c.args.bytes.now is),
    )

pub invariant_of-self : goal.invariant_of-self
invariant_of-self c =
    let s = c.self.inside in (
      keeps-same s.env c.take_in_bytes.new.env s.last s.names c.take_in_bytes.new.names (reverse s.pushed.items) c.self.invariant.0
          c.in_err-take_in_bytes.ensures.env_kept c.in_err-take_in_bytes.ensures.names_kept,
      subst (λ x. ArePlanned s.plans.places.items x.places) (sym c.in_err-take_in_bytes.ensures.env_kept) c.self.invariant.1,
      c.self.invariant.2,
    )

pub invariant_of-self-2 : goal.invariant_of-self-2
invariant_of-self-2 c =
    let s = c.self.inside in
    let e = s.env in
    let v = c.requires.0 in
    let items = s.pushed.items in
    let new = c.take_in_bytes.new.env in
    let is = kept-record c.args.self.now (Data v) c.args.bytes.now c.self.invariant.0 c.self.view_is c.requires.1 in
    let learned = c.in_ok-take_in_bytes.ensures.learned v is in
    let after = subst (λ x. IsRecord x (Data v) c.args.bytes.now) (sym learned) (record_after e (described_by e v) v c.args.bytes.now is) in
    let told = said_is_told e s.last v c.said_in-said.result is.0 (λ p here. c.said_in-said.ensures v p is here) in
    let last = last-now e s.last c.last_after-last.result s.names (reverse items) c.args.self.now (Data v) (Some c.said_in-said.result.told)
    c.self.invariant.0 c.self.view_is c.requires.1.0 told c.last_after-last.ensures in (
      subst (λ xs. KeepsRecords new c.last_after-last.result c.take_in_bytes.new.names (reverse xs)) (sym (c.add_bytes.ensures v after))
          (keeps-next e new s.last c.last_after-last.result s.names c.take_in_bytes.new.names items c.args.self.now (Data v)
          c.self.invariant.0 c.self.view_is learned last (c.in_ok-take_in_bytes.ensures.names v is)),
      subst (λ x. ArePlanned s.plans.places.items x.places) (sym learned) (planned_after s.plans.places.items e (described_by e v) c.self.invariant.1),
      λ wrong. cc wrong,
    )

pub returns-clause-ok : goal.returns-clause-ok
returns-clause-ok c v read =
    let e = c.self.inside.env in
    let is = kept-record c.args.self.now (Data v) c.args.bytes.now c.self.invariant.0 c.self.view_is read in
    let after = subst (λ x. IsRecord x (Data v) c.args.bytes.now) (sym (c.in_ok-take_in_bytes.ensures.learned v is))
    (record_after e (described_by e v) v c.args.bytes.now is) in
    ap reverse (c.add_bytes.ensures v after) ∙ reverse-append c.self.inside.pushed.items (Data v ∷ []) ∙ ap (λ xs. Data v ∷ xs) c.self.view_is
