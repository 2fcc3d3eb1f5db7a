use Rattle.fit_show.proofs.Common.{◌≡◌, ◌∙◌, ◌+◌, ◌++◌, ◌∷◌, [], map, drop, get_or, sym, ap, ap₂, append_assoc, arith, take, take_all}
use Rattle.fit_show.proofs.Common.{DevKey, dev_field_part, first_head, shown_key, shown_keys}
use Rattle.std.proofs.Common.{ℕ, List, None}
use Rattle.std.specs.Prelude.{codes}
use Rattle.fit_show.proofs.ShownLines.{keys_long, shown_taken}
use Rattle.fit_show.proofs.frames.push_devs.Goals as goal

pub loop-place-preserved : goal.loop-place-preserved
loop-place-preserved c =
    let before = c.args.before in
    let devs = c.args.devs.now in
    let k = c.loop-place.place in
    let key : DevKey = c.index-devs-place.result in
    let kept = c.dev.inside in
    let next = first_head (before + (k + 1)) (map dev_field_part (drop (k + 1) devs)) (codes "\n") in
    let head : c.put_dev_head.new.text.items ≡ next = c.in_ok-put_dev_head.ensures
    ∙ ap₂ (λ t others. t ++ first_head (before + (k + 1)) (map dev_field_part others) (codes "\n")) c.in_ok-head.ensures.items c.split_at.ensures.back in
    let item = c.in_ok-new.ensures
    ∙ ap₂ (λ (u t : List ℕ). shown_key (record { name = []; unit = u; code = kept.code; size = kept.size; info = None }) t) c.as_slice-unit.ensures.value head
    ∙ ap (λ (d : DevKey). shown_key (dev_field_part d) next) (c.dev.view_is ∙ c.index-devs-place.is) in
    let keys = shown_keys before (map dev_field_part devs) (codes "\n") in
    c.in_ok-push.ensures.items ∙ ap₂ (λ ks x. ks ++ (x ∷ [])) c.loop-place.invariant item
    ∙ append_assoc c.args.shown.now.items (take k keys) (shown_key (dev_field_part (get_or devs k key)) next ∷ [])
    ∙ ap (λ ks. c.args.shown.now.items ++ ks) (sym (shown_taken dev_field_part before devs (codes "\n") k key c.loop-place-test.true))

pub returns : goal.returns
returns c =
    let devs = c.args.devs.now in
    c.loop-place.invariant
    ∙ ap (λ ks. c.args.shown.now.items ++ ks) (take_all c.loop-place.place (shown_keys c.args.before (map dev_field_part devs) (codes "\n"))
    (omega (arith, c.loop-place-test.false, keys_long dev_field_part c.args.before devs (codes "\n"))))
