use Rattle.std.proofs.Common.{Option, ℕ}
use Rattle.fit_texts.proofs.Common.{◌≡◌, ◌≤◌, ◌-◌, ◌*◌, ◌++◌, length, map, and_sheet, base_type, item_text, IsFormOf}
use Rattle.fit_profile.specs.Profile.{Meaning}
use Rattle.fit_record.specs.ReadMessages.{numbers_of}
use Rattle.fit_texts.proofs.SeveralNumbers.{barred_from}
use Rattle.fit_texts.specs.Several.{numbers_text}
use Rattle.fit_texts.proofs.several.add_each.Given as goal

abbrev pub invariant-loop-place : goal.invariant-loop-place
invariant-loop-place l = record {
  within : l.end ≤ 1024;
  long : length l.rest ≡ (l.count - l.place) * l.form.width;
  text : (code : ℕ) (info : Option Meaning) → IsFormOf code info l.form
      → and_sheet l.text.items l.sheet l.end
      ++ barred_from l.place (map (item_text (base_type code).class code info l.form.width) (numbers_of l.order l.form.width (l.count - l.place) l.rest))
      ≡ and_sheet l.fn.text.items l.fn.sheet l.at ++ numbers_text code info l.form.width (numbers_of l.order l.form.width l.count l.bytes);
}
