use Rattle.fit_texts.proofs.Common.{◌≡◌, take, dev_keys, namings_at}
use Rattle.fit_texts.proofs.kept.developer.kept_devs.Given as goal

abbrev pub invariant-loop-place : goal.invariant-loop-place
invariant-loop-place l = l.kept.items ≡ take l.place (dev_keys l.fields l.dev_codes (namings_at l.stream l.local))
