use Rattle.std.proofs.Common.{rules, ◌≡◌, ◌∙◌, ◌∷◌, List, ℕ, take, ap, sym, subst}
use Rattle.std.specs.Global.{Global}
use Rattle.fit_record.specs.declared.definition.MessageDef.{MessageDef}
use Rattle.fit_record.specs.declared.message.Record.{Record}
use Rattle.fit_record.specs.declared.message.Record.TheVariants.{Define, Values as Data}
use Rattle.fit_record.specs.declared.message.Values.{Values}
use Rattle.fit_record.specs.Records.{IsRecord, record_bytes}
use Rattle.fit_profile.specs.Looks.{known}
use Rattle.fit_writer.proofs.Grown.{grown_twice, too_long}
use Rattle.fit_record.specs.Environment.{defined_by}
use Rattle.fit_writer.proofs.IndexFacts.{put_indices}
use Rattle.fit_writer.proofs.ReadThere.{says_own}
use Rattle.fit_writer.proofs.LoneForms.{local_few, spelled_own}
use Rattle.fit_writer.specs.Reading.{values_by}
use Rattle.fit_writer.specs.Written.{with_local}
use Rattle.fit_writer.specs.inner.OpenFiles.{AreData, current_with}
use Rattle.fit_writer.specs.inner.Indices.{AreIndices}
use Rattle.fit_writer.specs.Amounts.{latest_amounts}
use Rattle.fit_writer.specs.inner.Places.{form_of}
use Rattle.fit_writer.proofs.file.OpenFile.put_both.Goals as goal
use Rattle.fit_writer.proofs.file.OpenFile.put_both.Goals.{After-has_room}

abbrev message : After-has_room → Values Global
message c = values_by (form_of c.args.lone.now) c.args.block.now c.args.front.local c.args.front.offset

abbrev defines : After-has_room → List (Record Global)
defines c = Define (with_local c.args.lone.now.definition c.args.front.local) ∷ c.args.self.now.stream

is_record : (c : After-has_room) → IsRecord (known (defines c)) (Data (message c)) c.split_at.result.0.now
is_record c =
    let cut : take c.in_ok-end.end c.spell_message.new.bytes.items ≡ c.split_at.result.0.now = search rules in
    subst (λ (b : List ℕ). IsRecord (known (defines c)) (Data (message c)) b) cut
    (spelled_own c.args.self.now.stream c.args.front.local c.args.lone.now c.args.block.now c.args.front.offset
    (take c.in_ok-end.end c.spell_message.new.bytes.items) c.requires.lone c.requires.same
    (local_few c.args.front.local c.args.front.offset c.requires.front) c.in_ok-end.ensures.message)

pub returns-then-not-has_room-clause-refused : goal.returns-then-not-has_room-clause-refused
returns-then-not-has_room-clause-refused c =
    let a = (goal.at.returns-then-not-has_room-clause-refused c).After-has_room in
    let s = c.args.self.now.stream in
    let first = c.as_slice-defining.ensures.value ∙ c.in_ok-spell.ensures
    ∙ ap (λ (d : MessageDef Global). record_bytes (known s) (Define d)) c.in_ok-with_local.ensures in
    let size = grown_twice s (Define (with_local c.args.lone.now.definition c.args.front.local)) (Data (message a)) c.as_slice-2.result.now
    c.as_slice-defining.result.now c.split_at.result.0.now (subst (λ (d : List ℕ). AreData d c.args.self.now.stream)
    (sym c.as_slice-2.ensures.value) c.requires.good.are_data) first (is_record a).1 in
    too_long c.has_room.result _ _ size c.if-not-has_room.true c.has_room.ensures.1

pub add_message-requires-clause-message : goal.add_message-requires-clause-message
add_message-requires-clause-message c =
    let a = (goal.at.add_message-requires-clause-message c).After-has_room in
    let s = c.args.self.now.stream in
    let added = c.in_ok-add_record.ensures.ok ∙ ap (λ (d : MessageDef Global). let r : Record Global = Define d in r ∷ s) c.in_ok-with_local.ensures in (
      message a,
      subst (λ (st : List (Record Global)). IsRecord (known st) (Data (message a)) c.split_at.result.0.now) (sym added) (is_record a),
    )

pub returns-clause-ok : goal.returns-clause-ok
returns-clause-ok c =
    let a = (goal.at.returns-clause-ok c).After-has_room in
    let s = c.args.self.now.stream in
    let added = c.in_ok-add_record.ensures.ok ∙ ap (λ (d : MessageDef Global). let r : Record Global = Define d in r ∷ s) c.in_ok-with_local.ensures in
    let is = subst (λ (st : List (Record Global)). IsRecord (known st) (Data (message a)) c.split_at.result.0.now) (sym added) (is_record a) in
    ap (λ (rs : List (Record Global)). current_with c.args.self.now rs)
    (c.in_ok-told.ensures.ok (message a) is ∙ ap (λ (st : List (Record Global)). let r : Record Global = Data (message a) in r ∷ st) added)

pub returns-clause-good : goal.returns-clause-good
returns-clause-good c =
    let a = (goal.at.returns-clause-good c).After-has_room in
    let s = c.args.self.now.stream in
    let f = form_of c.args.lone.now in
    let local = c.args.front.local in
    let added = c.in_ok-add_record.ensures.ok ∙ ap (λ (d : MessageDef Global). let r : Record Global = Define d in r ∷ s) c.in_ok-with_local.ensures in
    let is = subst (λ (st : List (Record Global)). IsRecord (known st) (Data (message a)) c.split_at.result.0.now) (sym added) (is_record a) in record {
      form = c.requires.good.form;
      are_data = c.add_message.ensures.are;
      told = c.in_ok-told.ensures.told;
      are_indices = put_indices c.args.self.now.indices c.note_index.new.indices (defines a) c.add_message.new.stream f c.args.block.now local
          c.args.front.offset c.requires.good.are_indices
          (defined_by (known s) (with_local f.definition local), says_own s f local (local_few local c.args.front.offset c.requires.front) c.requires.same)
          c.note_index.ensures
          (c.in_ok-told.ensures.ok (message a) is ∙ ap (λ (st : List (Record Global)). let r : Record Global = Data (message a) in r ∷ st) added);
    }

pub returns-in_err-told-clause-good : goal.returns-in_err-told-clause-good
returns-in_err-told-clause-good c =
    let s = c.args.self.now.stream in
    let added = c.in_ok-add_record.ensures.ok ∙ ap (λ (d : MessageDef Global). let r : Record Global = Define d in r ∷ s) c.in_ok-with_local.ensures in record {
      form = c.requires.good.form;
      are_data = c.add_message.ensures.are;
      told = c.requires.good.told ∙ ap latest_amounts (sym (c.in_err-told.ensures.err ∙ added));
      are_indices = subst (AreIndices c.args.self.now.indices) (sym (c.in_err-told.ensures.err ∙ added)) c.requires.good.are_indices;
    }
