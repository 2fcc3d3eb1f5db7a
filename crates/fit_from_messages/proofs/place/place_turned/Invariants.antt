use Rattle.std.proofs.Common.{◌≡◌, ◌+◌, ◌-◌, ◌*◌, ◌≤◌, ◌++◌, length, take}
use Rattle.std.specs.Prelude.{flat_map}
use Rattle.fit_base.specs.Numbers.{IsBytes, number_bytes}
use Rattle.fit_base.specs.declared.number.Order.TheVariants.{Big, Little}
use Rattle.fit_record.specs.ReadMessages.{numbers_of}
use Rattle.fit_from_messages.proofs.place.place_turned.Given as goal

-- with the other numbers it is what all are
abbrev pub invariant-loop : goal.invariant-loop
invariant-loop l = record {
  told : take l.end l.bytes ++ flat_map (number_bytes Big l.width) (numbers_of Little l.width (l.count - l.counter) l.rest)
      ≡ take l.at l.initial.bytes ++ flat_map (number_bytes Big l.width) (numbers_of Little l.width l.count l.source);
  end : l.end + (l.count - l.counter) * l.width ≡ l.at + l.count * l.width;
  are : IsBytes l.rest;
  long : (l.count - l.counter) * l.width ≤ length l.rest;
}
