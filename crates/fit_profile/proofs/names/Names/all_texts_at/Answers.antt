use Rattle.fit_profile.proofs.Common.{◌≡◌, ◌<◌, ◌+◌, ℕ, List, length, get_or, sym, ap, ◌∙◌, map, take, ◌++◌, [], ◌∷◌, map_more, Naming, naming_in}
use Rattle.std.proofs.lemmas.List.{take_all}
use Rattle.fit_record.specs.declared.definition.DevDef.{DevDef}
use Rattle.fit_profile.proofs.names.Names.all_texts_at.Goals as goal

-- what is given to one more element
one_more : {X Y : Type 0} (given : X → Y) (xs : List X) (i : ℕ) (d : X) (all next : List Y) (y : Y) → i < length xs → next ≡ all ++ y ∷ []
    → all ≡ map given (take i xs) → y ≡ given (get_or xs i d) → next ≡ map given (take (i + 1) xs)
one_more given xs i d all next y within more so_far is =
    more ∙ ap (λ l. l ++ y ∷ []) so_far ∙ ap (λ z. map given (take i xs) ++ z ∷ []) is ∙ sym (map_more given xs i d within)

pub loop-field-preserved : goal.loop-field-preserved
loop-field-preserved g c =
    one_more (λ f. naming_in c.args.self.now f.index f.number) c.args.fields.now c.loop-field.field-index (record { number = 0; size = 0; index = 0 })
    c.loop-field.all c.push.new.self c.in_ok-texts.texts c.loop-field-test.true c.in_ok-push.ensures.ok c.loop-field.invariant c.in_ok-texts.ensures

pub returns : goal.returns
returns g c =
    let given : DevDef → Naming = λ f. naming_in c.args.self.now f.index f.number in
    c.loop-field.invariant ∙ ap (map given) (take_all c.loop-field.field-index c.args.fields.now c.loop-field-test.false)

pub loop-field-init : goal.loop-field-init
loop-field-init g c = c.new-all.ensures
