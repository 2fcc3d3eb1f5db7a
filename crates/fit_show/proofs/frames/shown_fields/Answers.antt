use Rattle.fit_show.proofs.Common.{◌≡◌, ◌∙◌, ◌+◌, ◌++◌, ◌∷◌, [], map, drop, sym, ap, ap₂, arith, get_or, take_all, FieldDef, field, field_part}
use Rattle.fit_show.proofs.Common.{first_head, shown_key, shown_keys}
use Rattle.fit_texts.specs.Words.{unit_text}
use Rattle.fit_show.proofs.ShownLines.{keys_long, shown_taken}
use Rattle.fit_show.proofs.frames.shown_fields.Goals as goal

abbrev nothing : FieldDef
nothing = record { number = 0; size = 0; code = 0 }

pub loop-place-preserved : goal.loop-place-preserved
loop-place-preserved c =
    let global = c.args.global in
    let fields = c.args.fields.now in
    let end = c.args.end.now in
    let k = c.loop-place.place in
    let f = get_or fields k nothing in
    let next = first_head (0 + (k + 1)) (map (field_part global) (drop (k + 1) fields)) end in
    let head : c.put_head.new.text.items ≡ next = c.in_ok-put_head.ensures
    ∙ ap₂ (λ t others. t ++ first_head (k + 1) (map (field_part global) others) end) c.in_ok-head.ensures.items c.split_at.ensures.back
    ∙ ap (λ n. first_head n (map (field_part global) (drop (k + 1) fields)) end) (omega arith) in
    let meant = c.field_info-info.ensures.table in
    let unit : c.as_bytes-unit.result.now ≡ unit_text (field global f.number) =
    c.as_bytes-unit.ensures.value ∙ c.unit_text.ensures ∙ ap unit_text meant in
    c.in_ok-push.ensures.items
    ∙ ap₂ (λ keys key. keys ++ (key ∷ [])) c.loop-place.invariant
    (c.in_ok-new.ensures ∙ (λ i. shown_key (record { name = []; unit = unit i; code = f.code; size = f.size; info = meant i }) (head i)))
    ∙ sym (shown_taken (field_part global) 0 fields end k nothing c.loop-place-test.true)

pub returns : goal.returns
returns c =
    let parts = field_part c.args.global in
    let fields = c.args.fields.now in
    c.loop-place.invariant
    ∙ take_all c.loop-place.place (shown_keys 0 (map parts fields) c.args.end.now)
    (omega (arith, c.loop-place-test.false, keys_long parts 0 fields c.args.end.now))
