use Rattle.fit_profile.proofs.Common.{◌≡◌, ◌∙◌, refl, sym, ap, ap₂, subst, false, IsSomeAnd, defined_at, known}
use Rattle.fit_record.specs.declared.message.Record.TheVariants.{Values as Data}
use Rattle.fit_profile.specs.Accumulated.{tells_more}
use Rattle.fit_profile.specs.Times.{time, time_of}
use Rattle.fit_profile.proofs.Kept.{kept-record, keeps-last, not-first}
use Rattle.fit_profile.proofs.PassedMessages.{alone_as_told, timed_last, timed_nothing}
use Rattle.fit_profile.proofs.stream.Stream.take_opened.Goals as goal

pub add_bytes-requires : goal.add_bytes-requires
add_bytes-requires c =
    (c.requires.0, kept-record c.args.self.now (Data c.requires.0) c.args.bytes.now c.self.invariant.0 c.self.view_is c.requires.1)

pub invariant_of-self : goal.invariant_of-self
invariant_of-self c =
    let s = c.self.inside in
    let now = c.args.self.now in
    let v = c.requires.0 in
    let read = c.requires.1 in
    let is = kept-record now (Data v) c.args.bytes.now c.self.invariant.0 c.self.view_is read in
    let told = c.requires.2 in
    let alone = subst (λ e. IsSomeAnd (defined_at e v.local) (λ p. tells_more p.definition ≡ false))
    (sym (c.self.invariant.0.env_is ∙ ap known c.self.view_is))
    (alone_as_told (defined_at (known now) v.local) v c.args.tells.more read.0 told.more c.if-tells.false) in
    let nothing = timed_nothing s.env v _ refl alone in
    let own = told.time
    ∙ sym (ap₂ (λ e l. time_of e l.time (Data v)) c.self.invariant.0.env_is c.self.invariant.0.last_is ∙ ap (λ xs. time xs (Data v)) c.self.view_is) in (
      keeps-last s.env s.last c.note_time.new.last s.names s.pushed.items c.add_bytes.new.records.items now v c.self.invariant.0 c.self.view_is
          read.0 nothing (c.note_time.ensures ∙ timed_last s.env s.last v _ c.args.tells.time refl alone own) (c.add_bytes.ensures v is),
      c.self.invariant.1,
      not-first s.is_new s.pushed.items c.add_bytes.new.records.items now s.env (Data v) c.self.invariant.2 c.self.view_is read.0 nothing,
    )
