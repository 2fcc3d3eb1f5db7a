use Rattle.fit_profile.proofs.Common.{◌≡◌, ◌≤◌, take, before_closing_zeros}
use Rattle.fit_profile.proofs.text.text_len.Given as goal

abbrev pub invariant-loop-place : goal.invariant-loop-place
invariant-loop-place l = record {
  before : take l.len l.bytes ≡ before_closing_zeros (take l.place l.bytes);
  within : l.len ≤ l.place;
}
