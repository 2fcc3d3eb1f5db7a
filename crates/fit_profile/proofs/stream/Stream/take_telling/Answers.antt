use Rattle.fit_profile.proofs.Common.{◌≡◌, ◌∙◌, ◌∷◌, [], sym, ap, subst, reverse, reverse-append, inl, inr, None}
use Rattle.fit_profile.proofs.Common.{KeepsRecords, described_by, known}
use Rattle.std.proofs.lemmas.Option.{IfSome_then}
use Rattle.fit_record.specs.declared.message.Record.TheVariants.{Values as Data}
use Rattle.fit_profile.proofs.Kept.{kept-record, keeps-last, not-first}
use Rattle.fit_profile.proofs.TakenMessages.{defined_inside, said_now, some_or_none}
use Rattle.fit_profile.proofs.stream.Stream.take_telling.Goals as goal

pub take_telling-requires : goal.take_telling-requires
take_telling-requires c = record {
  plans = c.self.invariant.1;
  message = (c.requires.0, kept-record c.args.self.now (Data c.requires.0) c.args.bytes.now c.self.invariant.0 c.self.view_is c.requires.1);
}

pub invariant_of-self : goal.invariant_of-self
invariant_of-self c =
    let s = c.self.inside in
    let items = s.pushed.items in
    let last = c.take_telling.new.last in
    let v = c.requires.0 in
    let is = kept-record c.args.self.now (Data v) c.args.bytes.now c.self.invariant.0 c.self.view_is c.requires.1 in (
      elim (some_or_none c.take_telling.result) [
        | inl taken ↦ keeps-last s.env s.last last s.names items c.take_telling.new.records.items c.args.self.now v c.self.invariant.0 c.self.view_is
            c.requires.1.0 (c.take_telling.ensures.nothing taken v is) (c.take_telling.ensures.last taken v is) (c.take_telling.ensures.records taken v is)
        | inr left ↦ subst (λ xs. KeepsRecords s.env last s.names (reverse xs)) (sym (c.take_telling.ensures.records_kept left))
            (subst (λ l. KeepsRecords s.env l s.names (reverse items)) (sym (c.take_telling.ensures.last_kept left)) c.self.invariant.0)
      ],
      c.take_telling.ensures.plans,
      elim (some_or_none c.take_telling.result) [
        | inl taken ↦ not-first s.is_new items c.take_telling.new.records.items c.args.self.now s.env (Data v) c.self.invariant.2 c.self.view_is
            c.requires.1.0 (c.take_telling.ensures.nothing taken v is)
        | inr left ↦ λ new. c.take_telling.ensures.records_kept left ∙ c.self.invariant.2 new
      ],
    )

pub returns-clause-said : goal.returns-clause-said
returns-clause-said c asked = IfSome_then c.take_telling.result (c.take_telling.ensures.said asked) (λ t said v p read known_.
    said_now c.args.self.now v p t c.self.invariant.0 c.self.view_is known_
    (said v p (kept-record c.args.self.now (Data v) c.args.bytes.now c.self.invariant.0 c.self.view_is read)
    (defined_inside c.args.self.now v p c.self.invariant.0 c.self.view_is known_)))

pub returns-clause-taken : goal.returns-clause-taken
returns-clause-taken c taken v read =
    let is = kept-record c.args.self.now (Data v) c.args.bytes.now c.self.invariant.0 c.self.view_is read in
    ap reverse (c.take_telling.ensures.records taken v is) ∙ reverse-append c.self.inside.pushed.items (Data v ∷ [])
    ∙ ap (λ xs. Data v ∷ xs) c.self.view_is

pub returns-clause-kept : goal.returns-clause-kept
returns-clause-kept c left = ap reverse (c.take_telling.ensures.records_kept left) ∙ c.self.view_is

pub returns-clause-describes : goal.returns-clause-describes
returns-clause-describes c left v read none =
    let same = c.self.invariant.0.env_is ∙ ap known c.self.view_is in
    c.take_telling.ensures.describes left v (kept-record c.args.self.now (Data v) c.args.bytes.now c.self.invariant.0 c.self.view_is read)
    (subst (λ e. described_by e v ≡ None) (sym same) none)
