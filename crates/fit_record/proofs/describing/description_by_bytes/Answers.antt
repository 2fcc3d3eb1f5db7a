use Rattle.fit_record.proofs.Common.{◌≡◌, ◌+◌, ℕ, ◌<◌, ◌≤◌, List, [], Some, None, length, drop, sym, ap, ◌∙◌, arith, fields_from, slice_get}
use Rattle.fit_record.proofs.Common.{slice_get-get_or, get_or, eqb-true, take, drop_all, AllByRecursion, FieldDef, Values, lit<, subst}
use Rattle.std.specs.Prelude.{slice_index_or}
use Rattle.fit_record.specs.Environment.{only_byte}
use Rattle.fit_record.proofs.BytesOfNumbers.{shapes, sizes_at, none_left}
use Rattle.fit_record.proofs.OneWalk.{IsFound, byte_of, without, description_is, finished, taken, ended, less, all_found, so_far-some}
use Rattle.fit_record.proofs.SilentFields.{none_later, passed_together, same_sizes}
use Rattle.fit_record.specs.inner.Describing.{IsPassedBy}
use Rattle.fit_record.proofs.describing.description_by_bytes.Goals as goal
use Rattle.fit_record.proofs.describing.description_by_bytes.Goals.{then-is_empty-2-via-then-is_empty-2, then-is_empty-2-via-else-is_empty-2+then-are_found}

abbrev none_there : FieldDef
none_there = record { number = 0; size = 0; code = 0 }

field_at : (fields xs : List FieldDef) (k : ℕ) → xs ≡ fields → k < length xs → slice_get fields k ≡ Some (get_or xs k none_there)
field_at fields xs k same less = ap (λ l. slice_get l k) (sym same) ∙ slice_get-get_or xs k none_there less

pub split_at-requires : goal.split_at-requires
split_at-requires g c =
    let k = c.loop-place.place in
    let fields = c.args.d.now.fields in
    let at = field_at fields c.as_slice-fields.result.now k c.as_slice-fields.ensures c.loop-place-test.true in
    omega (arith, sizes_at g.row.A.Denot c.args.d.now.order fields k _ at [] 0, c.loop-place.invariant.enough)

pub returns-then-is_empty : goal.returns-then-is_empty
returns-then-is_empty g c =
    let A = g.row.A.Denot in
    let d = c.args.d.now in
    let v : Values A = record { local = 0; offset = None; fields = fields_from d.order (shapes d.fields) c.args.bytes.now; dev = [] } in
    let empty = eqb-true (length c.args.bytes.now) 0 (sym c.is_empty.ensures ∙ c.if-is_empty.true) in
    sym (without (λ n. only_byte d.fields v.fields n) 0 (lit< tt) (none_left A d.order d.fields c.args.bytes.now 0 empty c.requires.size))
    ∙ description_is d v c.requires.global

pub returns-then-not-take_field : goal.returns-then-not-take_field
returns-then-not-take_field g c =
    let A = g.row.A.Denot in
    let d = c.args.d.now in
    let v : Values A = record { local = 0; offset = None; fields = fields_from d.order (shapes d.fields) c.args.bytes.now; dev = [] } in
    let k = c.loop-place.place in
    let rest = c.loop-place.rest.now in
    let f = get_or c.as_slice-fields.result.now k none_there in
    let at = field_at d.fields c.as_slice-fields.result.now k c.as_slice-fields.ensures c.loop-place-test.true in
    let within : f.size ≤ length rest = omega (arith, sizes_at A d.order d.fields k f at [] 0, c.loop-place.invariant.enough) in
    let ends = c.take_field.ensures.ends c.if-not-take_field.true in
    sym (without (λ n. only_byte d.fields v.fields n) f.number ends.0
    (ended A d.order d.fields k f at c.args.bytes.now rest c.split_at.result.0.now c.split_at.result.1.now c.loop-place.found c.loop-place.invariant.told within
    c.split_at.ensures.front c.split_at.ensures.back ends.0 ends.1 ends.2)) ∙ description_is d v c.requires.global

pub returns-then-is_empty-2 : goal.returns-then-is_empty-2
returns-then-is_empty-2 g c =
    let A = g.row.A.Denot in
    let d = c.args.d.now in
    let v : Values A = record { local = 0; offset = None; fields = fields_from d.order (shapes d.fields) c.args.bytes.now; dev = [] } in
    let k = c.loop-place.place in
    let rest = c.loop-place.rest.now in
    let after = c.split_at.result.1.now in
    let f = get_or c.as_slice-fields.result.now k none_there in
    let at = field_at d.fields c.as_slice-fields.result.now k c.as_slice-fields.ensures c.loop-place-test.true in
    let within : f.size ≤ length rest = omega (arith, sizes_at A d.order d.fields k f at [] 0, c.loop-place.invariant.enough) in
    let new = c.take_field.new.found in
    let told : IsFound A d.order d.fields c.args.bytes.now new (drop (k + 1) d.fields) after =
    taken A d.order d.fields k f at c.args.bytes.now rest c.split_at.result.0.now after c.loop-place.found c.loop-place.invariant.told within
    c.split_at.ensures.front c.split_at.ensures.back new (c.take_field.ensures.goes c.if-not-take_field.false) in
    let enough = less A d.order d.fields k f at c.args.bytes.now rest c.split_at.result.0.now after c.loop-place.found c.loop-place.invariant.told within
    c.split_at.ensures.front c.split_at.ensures.back c.loop-place.invariant.enough in
    let all : (n : ℕ) → n < 3 → slice_index_or new n None ≡ only_byte d.fields v.fields n =
    elim c.then-is_empty-2.branch [
      | then-is_empty-2-via-then-is_empty-2 w ↦ all_found A d.order d.fields (drop (k + 1) d.fields) c.args.bytes.now after new told enough
          (eqb-true (length after) 0 (sym c.is_empty-else-silent-gt0.ensures ∙ w.if-is_empty-2.true))
      | then-is_empty-2-via-else-is_empty-2+then-are_found w ↦ λ n few.
          sym (so_far-some (slice_index_or new n None) (byte_of A d.order (drop (k + 1) d.fields) after n) (w.are_found.ensures w.if-are_found.true n few))
          ∙ told n few
    ] in
    c.described_by.ensures ∙ finished d v new c.requires.global all

pub loop-place-preserved-then-silent-gt0 : goal.loop-place-preserved-then-silent-gt0
loop-place-preserved-then-silent-gt0 g c =
    let A = g.row.A.Denot in
    let fields = c.args.d.now.fields in
    let k = c.loop-place.place in
    let m = c.silent_from-silent.result in
    let rest = c.loop-place.rest.now in
    let silent = subst (λ l. AllByRecursion IsPassedBy (take m (drop k l))) c.as_slice-fields.ensures c.silent_from-silent.ensures.silent in
    record {
      told = passed_together fields k m silent A c.args.d.now.order c.args.bytes.now rest c.loop-place.found c.loop-place.invariant.told;
      enough = omega (arith, same_sizes fields k m silent, c.loop-place.invariant.enough);
    }

pub loop-place-preserved : goal.loop-place-preserved
loop-place-preserved g c =
    let A = g.row.A.Denot in
    let o = c.args.d.now.order in
    let fields = c.args.d.now.fields in
    let bytes = c.args.bytes.now in
    let k = c.loop-place.place in
    let rest = c.loop-place.rest.now in
    let after = c.split_at.result.1.now in
    let f = get_or c.as_slice-fields.result.now k none_there in
    let at = field_at fields c.as_slice-fields.result.now k c.as_slice-fields.ensures c.loop-place-test.true in
    let within : f.size ≤ length rest = omega (arith, sizes_at A o fields k f at [] 0, c.loop-place.invariant.enough) in
    record {
      told = taken A o fields k f at bytes rest c.split_at.result.0.now after c.loop-place.found c.loop-place.invariant.told within
          c.split_at.ensures.front c.split_at.ensures.back c.take_field.new.found (c.take_field.ensures.goes c.if-not-take_field.false);
      enough = less A o fields k f at bytes rest c.split_at.result.0.now after c.loop-place.found c.loop-place.invariant.told within
          c.split_at.ensures.front c.split_at.ensures.back c.loop-place.invariant.enough;
    }

pub returns : goal.returns
returns g c =
    let A = g.row.A.Denot in
    let d = c.args.d.now in
    let v : Values A = record { local = 0; offset = None; fields = fields_from d.order (shapes d.fields) c.args.bytes.now; dev = [] } in
    let found = c.loop-place.found in
    let k = c.loop-place.place in
    let none : drop k d.fields ≡ [] = ap (drop k) (sym c.as_slice-fields.ensures) ∙ drop_all k _ c.loop-place-test.false in
    c.described_by-2.ensures ∙ finished d v found c.requires.global
    (none_later A d.order d.fields (drop k d.fields) c.args.bytes.now c.loop-place.rest.now found c.loop-place.invariant.told none)
