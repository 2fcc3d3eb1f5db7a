-- Texts of instants that are known from elsewhere.
use Rattle.fit_texts.proofs.Common.{◌≡◌, refl, date_after, date_in_year, instant_text}
use Rattle.std.proofs.Common.{codes}
use Rattle.std.specs.Fmt.{digits}

midnight_before : instant_text 1000000000 ≡ codes "2021-09-08T01:46:40Z"
unfolding date_after date_in_year digits
midnight_before = refl

first_civil : instant_text 268435456 ≡ codes "1998-07-03T21:24:16Z"
unfolding date_after date_in_year digits
first_civil = refl

last_system : instant_text 268435455 ≡ codes "system+268435455"
unfolding date_after date_in_year digits
last_system = refl

last_instant : instant_text 4294967295 ≡ codes "2126-02-06T06:28:15Z"
unfolding date_after date_in_year digits
last_instant = refl
