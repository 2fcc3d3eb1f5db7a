use Rattle.fit_profile.proofs.Common.{◌≡◌, map, take, naming_in}
use Rattle.fit_profile.proofs.names.Names.all_texts_at.Given as goal

abbrev pub invariant-loop-field : goal.invariant-loop-field
invariant-loop-field g l = l.all ≡ map (λ f. naming_in l.fn.self f.index f.number) (take l.field-index l.fields)
