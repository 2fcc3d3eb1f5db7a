-- The items before are still there, and one more stands after them.
use Rattle.fit_cells.proofs.Common.{◌≡◌, ◌<◌, ◌+◌, ◌∙◌, ◌++◌, ◌∷◌, [], ℕ, List, length, map, flat_map, take, get_or, sym, ap, arith, append_assoc}
use Rattle.fit_cells.proofs.Common.{take_all, take_more, option_map, meaning, barred, item_text, more_put, on_err_always, part_put}
use Rattle.std.proofs.Common.{append-nil, length-take-le}
use Rattle.fit_cells.specs.Steps.{bar}
use Rattle.fit_cells.proofs.numbers.put_items.Goals as goal

others_more : (f : ℕ → List ℕ) (xs : List ℕ) (x : ℕ) → flat_map (λ t. 124 ∷ t) (map f (xs ++ x ∷ [])) ≡ flat_map (λ t. 124 ∷ t) (map f xs) ++ 124 ∷ f x
others_more f [] x = append-nil (124 ∷ f x)
others_more f (y ∷ ys) x =
    ap (λ t. (124 ∷ f y) ++ t) (others_more f ys x) ∙ sym (append_assoc (124 ∷ f y) (flat_map (λ t. 124 ∷ t) (map f ys)) (124 ∷ f x))

-- After some items there stands one more, with a bar before it unless it is the first.
barred_more : (f : ℕ → List ℕ) (xs : List ℕ) (x : ℕ) → barred (map f (xs ++ x ∷ [])) ≡ barred (map f xs) ++ (bar (length xs) ++ f x)
barred_more f [] x = append-nil (f x)
barred_more f (y ∷ ys) x = ap (λ t. f y ++ t) (others_more f ys x) ∙ sym (append_assoc (f y) (flat_map (λ t. 124 ∷ t) (map f ys)) (124 ∷ f x))

item_written : (f : ℕ → List ℕ) (bits : List ℕ) (place : ℕ) (start old mid new : List ℕ) → place < length bits
    → old ≡ start ++ barred (map f (take place bits)) → mid ≡ old ++ bar place → new ≡ mid ++ f (get_or bits place 0)
    → new ≡ start ++ barred (map f (take (place + 1) bits))
item_written f bits place start old mid new less told between put =
    let x = get_or bits place 0 in
    let before = barred (map f (take place bits)) in
    let long : length (take place bits) ≡ place = length-take-le place bits (omega (arith, less)) in
    put ∙ ap (λ t. t ++ f x) (between ∙ ap (λ t. t ++ bar place) told) ∙ append_assoc (start ++ before) (bar place) (f x)
    ∙ append_assoc start before (bar place ++ f x)
    ∙ ap (λ t. start ++ t)
    (ap (λ n. before ++ (bar n ++ f x)) (sym long) ∙ sym (barred_more f (take place bits) x)
    ∙ ap (λ l. barred (map f l)) (sym (take_more bits place 0 less)))

pub loop-place-init : goal.loop-place-init
loop-place-init c = sym (append-nil c.args.text.now.items)

pub put_item-requires-clause-bits : goal.put_item-requires-clause-bits
put_item-requires-clause-bits c = c.requires.bits c.loop-place.place 0 c.loop-place-test.true

pub returns-in_err-put_bar-clause-kept : goal.returns-in_err-put_bar-clause-kept
returns-in_err-put_bar-clause-kept c =
    on_err_always c.from_residual.result _
    (part_put c.args.text.now.items c.loop-place.text.items c.put_bar.new.text.items _ c.loop-place.invariant c.in_err-put_bar.ensures.err)

pub returns-in_err-put_item-clause-kept : goal.returns-in_err-put_item-clause-kept
returns-in_err-put_item-clause-kept c =
    on_err_always c.from_residual-in_err-put_item.result _
    (more_put c.args.text.now.items c.loop-place.text.items c.put_item.new.text.items _ c.loop-place.invariant
    (more_put c.loop-place.text.items c.put_bar.new.text.items c.put_item.new.text.items _ c.in_ok-put_bar.ensures.ok c.in_err-put_item.ensures.kept))

pub loop-place-preserved : goal.loop-place-preserved
loop-place-preserved c =
    item_written (item_text c.args.class c.args.code.0 (option_map meaning c.args.info) c.args.width) c.args.bits.now c.loop-place.place
    c.args.text.now.items c.loop-place.text.items c.put_bar.new.text.items c.put_item.new.text.items c.loop-place-test.true c.loop-place.invariant
    c.in_ok-put_bar.ensures.ok c.in_ok-put_item.ensures.ok

pub returns-clause-ok : goal.returns-clause-ok
returns-clause-ok c =
    c.loop-place.invariant
    ∙ ap (λ l. c.args.text.now.items ++ barred (map (item_text c.args.class c.args.code.0 (option_map meaning c.args.info) c.args.width) l))
    (take_all c.loop-place.place c.args.bits.now c.loop-place-test.false)
