-- What has to be held is limited.
use Rattle.fit_chain.proofs.Common.{cond, Bool, true, false, ℕ, ◌≤◌, List, ◌++◌, length, subst, arith, ◌==◌, IsBytes, IsBytes-front, IsBytes-back, Header}
use Rattle.fit_chain.proofs.Common.{header_bytes, FitFile, Record, empty_environment, learn_all, records_bytes, chain_bytes, part_size, at_header, at_data}
use Rattle.fit_chain.proofs.Common.{progress_bytes, HasCome, bound, bound_limit, BoundsAreLimited}
use Rattle.fit_step.proofs.HeldInProgress.{held_is_limited}

module _ {A : Type 0} (files : List (FitFile A)) (h : Header) (n : ℕ) (records : List (Record A))
    (part bytes : List ℕ)
    (here : HasCome files (at_data h n records part) bytes) (are : IsBytes bytes) where
  next_are : IsBytes ((header_bytes h n ++ records_bytes empty_environment records) ++ part)
  next_are = IsBytes-back (chain_bytes files) (progress_bytes (at_data h n records part)) (subst IsBytes here.spelled are)

  pub part_are : IsBytes part
  part_are = IsBytes-back (header_bytes h n ++ records_bytes empty_environment records) part next_are

  pub records_are : IsBytes (records_bytes empty_environment records)
  records_are = IsBytes-back (header_bytes h n) (records_bytes empty_environment records)
      (IsBytes-front (header_bytes h n ++ records_bytes empty_environment records) part next_are)

  none_or : (b : Bool) (m : ℕ) → cond b 0 m ≤ m
  none_or true m = omega arith
  none_or false m = omega arith

  limited_data : bound (at_data h n records part) ≤ bound_limit
  limited_data =
      let limits = held_is_limited records part here.next.1 records_are part_are in
      omega (arith, none_or (length (records_bytes empty_environment records) == n) (part_size (learn_all empty_environment records) part), limits.0, limits.1)

pub limited_bound : {A : Type 0} → BoundsAreLimited A
limited_bound files (at_header front) bytes here are = omega arith
limited_bound files (at_data h n records part) bytes here are = limited_data files h n records part bytes here are
