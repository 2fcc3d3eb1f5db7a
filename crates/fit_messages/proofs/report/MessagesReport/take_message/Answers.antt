use Rattle.std.proofs.Common.{◌∙◌, ◌++◌, ap, ap₂, arith, length, subst, sym, take}
use Rattle.std.proofs.lemmas.List.{length-drop}
use Rattle.std.proofs.lemmas.Option.{same_Some}
use Rattle.std.specs.Global.{Global}
use Rattle.std.specs.Prelude.{slice_index_or}
use Rattle.fit_base.proofs.ByteLists.{slice_is_bytes}
use Rattle.fit_profile.specs.Looks.{known}
use Rattle.fit_record.specs.Records.{IsRecord}
use Rattle.fit_record.specs.declared.environment.Defined.{Defined}
use Rattle.fit_record.specs.declared.message.Record.TheVariants.{Values as Data}
use Rattle.fit_record.specs.declared.message.Values.{Values}
use Rattle.fit_messages.specs.Blocks.{message_after, sized}
use Rattle.fit_messages.specs.Kept.{KeptHeard}
use Rattle.fit_messages.specs.inner.Heads.{head_bytes}
use Rattle.fit_messages.specs.inner.Sheets.{IsQuick, slots_from}
use Rattle.fit_messages.proofs.MessageFacts.{head_alone, lone_layout, read_as_message}
use Rattle.fit_messages.proofs.TakenValues.{IsOf, head_of, is_head, is_of}
use Rattle.fit_messages.proofs.report.MessagesReport.take_message.Goals as goal
use Rattle.fit_messages.proofs.report.MessagesReport.take_message.Goals.{After-split_at-2}

-- the definition that the message is of
of : (c : After-split_at-2) (v : Values Global) → IsRecord (known c.self.inside.stream) (Data v) (take c.args.size c.args.piece.now)
    → (p : Defined Global) × IsOf c.self.inside.stream c.take_and_tell.new.self v c.in_ok-taken.taken c.args.size p
of c v begun =
    let piece = c.args.piece.now in
    let whole = subst (λ b. IsRecord (known c.self.inside.stream) (Data v) b) (sym c.split_at.ensures.front) begun in
    is_of c.self.inside.stream c.take_and_tell.new.self v c.in_ok-taken.taken piece c.args.size (slice_is_bytes piece c.type_inv.piece) c.requires.size begun
    (c.in_ok-taken.ensures.ok v whole) (λ p known_. c.in_ok-taken.ensures.said v p whole known_)

pub take_and_tell-requires : goal.take_and_tell-requires
take_and_tell-requires c =
    let m = c.requires.message in
    let begun = subst (λ (k : KeptHeard). IsRecord (known k.records) (Data m.0) (take c.args.size c.args.piece.now)) (sym c.self.view_is) m.1 in
    (m.0, subst (λ b. IsRecord (known c.self.inside.stream) (Data m.0) b) (sym c.split_at.ensures.front) begun)

pub put_message-requires-clause-head : goal.put_message-requires-clause-head
put_message-requires-clause-head c =
    let s = c.self.inside in
    let (v, is) = c.requires.message in
    let begun = subst (λ (k : KeptHeard). IsRecord (known k.records) (Data v) (take c.args.size c.args.piece.now)) (sym c.self.view_is) is in
    let found = of (goal.at.put_message-requires-clause-head c).After-split_at-2 v begun in
    let t = c.in_ok-taken.taken in
    head_alone s.stream v found.0 (head_of c.here-place.result c.number_at.result t) found.1.before_it
    (is_head s.stream v found.0 c.here-place.result c.number_at.result t found.1.said)

pub put_message-requires-clause-defined : goal.put_message-requires-clause-defined
put_message-requires-clause-defined c =
    let piece = c.args.piece.now in
    let (v, is) = c.requires.message in
    let begun = subst (λ (k : KeptHeard). IsRecord (known k.records) (Data v) (take c.args.size piece)) (sym c.self.view_is) is in
    let found = of (goal.at.put_message-requires-clause-defined c).After-split_at-2 v begun in (
      found.0,
      found.1.after_it,
      omega (arith, found.1.long, c.requires.size, ap length c.split_at-2.ensures.back, length-drop 1 piece),
    )

pub put_message-requires-clause-quick : goal.put_message-requires-clause-quick
put_message-requires-clause-quick c = λ quick q here.
    let piece = c.args.piece.now in
    let (v, is) = c.requires.message in
    let begun = subst (λ (k : KeptHeard). IsRecord (known k.records) (Data v) (take c.args.size piece)) (sym c.self.view_is) is in
    let found = of (goal.at.put_message-requires-clause-quick c).After-split_at-2 v begun in
    subst (λ (x : Defined Global). IsQuick x c.split_at-2.result.1.now) (same_Some found.0 q (sym found.1.after_it ∙ here)) (
      lone_layout found.0 (sym found.1.said.lone ∙ c.is_quick-quick.ensures.lone quick),
      omega (arith, found.1.long, c.requires.size, c.is_quick-quick.ensures.more quick, ap length c.split_at-2.ensures.back, length-drop 1 piece),
    )

pub returns-clause-text : goal.returns-clause-text
returns-clause-text c = λ v is.
    let piece = c.args.piece.now in
    let s = c.self.inside in
    let t = c.in_ok-taken.taken in
    let old = c.args.text.now.items in
    let now = c.args.self.now in
    let begun = subst (λ (k : KeptHeard). IsRecord (known k.records) (Data v) (take c.args.size piece)) (sym c.self.view_is) is in
    let found = of (goal.at.returns-clause-text c).After-split_at-2 v begun in
    let h = head_of c.here-place.result c.number_at.result t in
    let block = read_as_message s.stream v found.0 h piece c.args.size found.1.before_it (slice_is_bytes piece c.type_inv.piece) c.requires.size begun
    (is_head s.stream v found.0 c.here-place.result c.number_at.result t found.1.said) in
    c.in_ok-put_message.ensures found.0 found.1.after_it
    ∙ ap (λ b. old ++ sized (head_bytes h ++ slots_from found.0 b)) c.split_at-2.ensures.back
    ∙ ap (λ b. old ++ b) block
    ∙ ap (λ number. old ++ message_after s.stream c.here-place.result.file c.here-place.result.place number v)
    (c.number_at.ensures ∙ ap (λ l. slice_index_or s.numbers l 0) found.1.said.local)
    ∙ ap₂ (λ file place. old ++ message_after s.stream file place (slice_index_or s.numbers v.local 0) v) c.here-place.ensures.file c.here-place.ensures.place
    ∙ ap (λ (k : KeptHeard). old ++ message_after k.records now.files now.place (slice_index_or k.numbers v.local 0) v) c.self.view_is
