use Rattle.std.proofs.Common.{rules, ◌≡◌, List, ℕ, take, ap, sym, subst, Some}
use Rattle.std.specs.Global.{Global}
use Rattle.fit_record.specs.declared.message.Record.{Record}
use Rattle.fit_record.specs.declared.message.Record.TheVariants.{Values as Data}
use Rattle.fit_record.specs.declared.message.Values.{Values}
use Rattle.fit_record.specs.Environment.{defined_at}
use Rattle.fit_record.specs.Records.{IsRecord}
use Rattle.fit_profile.specs.Looks.{known}
use Rattle.fit_writer.proofs.Grown.{grown_length, too_long}
use Rattle.fit_writer.proofs.IndexFacts.{put_indices}
use Rattle.fit_writer.proofs.LoneForms.{same_order, spelled_there}
use Rattle.fit_writer.specs.Reading.{values_by}
use Rattle.fit_writer.specs.inner.OpenFiles.{AreData, current_with}
use Rattle.fit_writer.specs.inner.Places.{form_of}
use Rattle.fit_writer.proofs.file.OpenFile.put_known.Goals as goal
use Rattle.fit_writer.proofs.file.OpenFile.put_known.Goals.{After-has_room}

abbrev message : After-has_room → Values Global
message c = values_by (form_of c.args.lone.now) c.args.block.now c.args.front.local c.args.front.offset

is_record : (c : After-has_room) → IsRecord (known c.args.self.now.stream) (Data (message c)) c.split_at.result.0.now
is_record c =
    let s = c.args.self.now.stream in
    let same = c.requires.same.1 in
    let there : defined_at (known s) c.args.front.local ≡ Some c.in-Some.place.now = search rules in
    let cut : take c.in_ok-end.end c.spell_message.new.bytes.items ≡ c.split_at.result.0.now = search rules in
    subst (λ (b : List ℕ). IsRecord (known s) (Data (message c)) b) cut
    (spelled_there s c.args.front.local c.args.lone.now c.args.block.now c.in-Some.place.now.definition.order c.args.front.offset
    (take c.in_ok-end.end c.spell_message.new.bytes.items) c.requires.same.0 c.requires.lone same
    (same_order (defined_at (known s) c.args.front.local) c.requires.same.0 c.in-Some.place.now same.defined there) c.in_ok-end.ensures.message)

pub returns-then-not-has_room-clause-refused : goal.returns-then-not-has_room-clause-refused
returns-then-not-has_room-clause-refused c =
    let a = (goal.at.returns-then-not-has_room-clause-refused c).After-has_room in
    let size = grown_length c.args.self.now.stream (Data (message a)) c.as_slice-2.result.now c.split_at.result.0.now
    (subst (λ (d : List ℕ). AreData d c.args.self.now.stream) (sym c.as_slice-2.ensures.value) c.requires.good.are_data) (is_record a).1 in
    too_long c.has_room.result _ _ size c.if-not-has_room.true c.has_room.ensures.1

pub add_message-requires-clause-message : goal.add_message-requires-clause-message
add_message-requires-clause-message c =
    let a = (goal.at.add_message-requires-clause-message c).After-has_room in (message a, is_record a)

pub returns-clause-ok : goal.returns-clause-ok
returns-clause-ok c =
    let a = (goal.at.returns-clause-ok c).After-has_room in
    ap (λ (rs : List (Record Global)). current_with c.args.self.now rs) (c.in_ok-told.ensures.ok (message a) (is_record a))

pub returns-clause-good : goal.returns-clause-good
returns-clause-good c =
    let a = (goal.at.returns-clause-good c).After-has_room in record {
      form = c.requires.good.form;
      are_data = c.add_message.ensures.are;
      told = c.in_ok-told.ensures.told;
      are_indices = put_indices c.args.self.now.indices c.note_index.new.indices c.args.self.now.stream c.add_message.new.stream (form_of c.args.lone.now)
          c.args.block.now c.args.front.local c.args.front.offset c.requires.good.are_indices c.requires.same c.note_index.ensures
          (c.in_ok-told.ensures.ok (message a) (is_record a));
    }
