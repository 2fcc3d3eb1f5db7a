-- A file, and files one after another, that are put in a sink.
use Rattle.fit_encode.proofs.Common.{◌≡◌, ℕ, ◌<◌, false, List, [], ◌++◌, take, drop, get_or, length, sym, ap, ◌∙◌, subst, refl, flat_map, Appends}
use Rattle.fit_encode.proofs.Common.{header_bytes, little_bytes, checksum, body, summed, file_bytes, chain_bytes, chain_limit, IsWellFormedChain, StopsAt}
use Rattle.fit_encode.proofs.Common.{Appends-trans, FitFile, Written, Sending, Spells, Breaks, PutsAll, IsCounted, fresh}
use Rattle.std.proofs.Common.{◌+◌, ◌^◌, Option, Ok}
use Rattle.fit_encode.proofs.Common.{Bool, true, arith, length-append}
use Rattle.std.proofs.Math.Seq.{take-append-add}
use Rattle.fit_encode.proofs.Lengths.{chain_short, some_file_byte}
use Rattle.fit_encode.proofs.Sendings.{Appends-as, Breaks-as, Breaks-from, Breaks-more, Breaks-on, IsCounted-as, IsCounted-more, Spells-as, Spells-from}
use Rattle.fit_encode.proofs.Sendings.{Spells-on, StopsAt-as, all_spelled, next_part_of, parts_of, stops_at, went_out}

-- ---- a file: its header, its data, and the checksum of both

module _ {A : Type 0} (f : FitFile A) {a b : Written} {count : ℕ} {s : Sending} {head : List ℕ} (new : s ≡ fresh count)
    (same : head ≡ header_bytes f.header (length (body f))) where
  pub head_breaks : {w : ℕ} → Breaks a b s head w → Breaks a b (fresh count) (file_bytes f) w
  head_breaks broken = Breaks-more (little_bytes 2 (checksum (summed f))) (Breaks-more (body f) (Breaks-as same (Breaks-from new broken)))

  module _ {c : Written} {t : Sending} {bytes : List ℕ} (begun : Spells a b s t head) (is : bytes ≡ body f) where
    pub data_breaks : {w : ℕ} → Breaks b c t bytes w → Breaks a c (fresh count) (file_bytes f) w
    data_breaks broken = Breaks-more (little_bytes 2 (checksum (summed f))) (Breaks-on (Spells-as same (Spells-from new begun)) (Breaks-as is broken))

    module _ {u : Sending} (spelled : Spells b c t u bytes) where
      both : Spells a c (fresh count) u (summed f)
      both = Spells-on (Spells-as same (Spells-from new begun)) (Spells-as is spelled)

      closing : little_bytes 2 (checksum (u.sent ++ u.held)) ≡ little_bytes 2 (checksum (summed f))
      closing = ap (λ x. little_bytes 2 (checksum x)) (all_spelled both)

      pub sum_breaks : {d : Written} {w : ℕ} → Breaks c d u (little_bytes 2 (checksum (u.sent ++ u.held))) w → Breaks a d (fresh count) (file_bytes f) w
      sum_breaks broken = Breaks-on both (Breaks-as closing broken)

      pub file_put : {d : Written} {v : Sending} (total : ℕ) → Spells c d u v (little_bytes 2 (checksum (u.sent ++ u.held))) → v.held ≡ [] → total ≡ v.count
          → PutsAll a d count (file_bytes f) (Ok total)
      file_put total ended none counted =
          let out = went_out (Spells-on both (Spells-as closing ended)) refl none in
          (out.0, (λ fits. counted ∙ out.2 fits), out.3)

-- ---- the first files of a chain

-- what went out of them, and how many bytes
abbrev pub FirstPut : {A : Type 0} → Option (List ℕ) → Written → List (FitFile A) → ℕ → ℕ → Type 0
FirstPut old sink fs i count = record {
  appended : Appends old sink.held (flat_map file_bytes (take i fs));
  total : IsCounted 0 (length (flat_map file_bytes (take i fs))) count;
  works : 0 < i → sink.failed ≡ false;
}

module _ {A : Type 0} (old : Option (List ℕ)) (a b : Written) (fs : List (FitFile A)) (i count : ℕ) (f : FitFile A) (less : i < length fs)
    (is : f ≡ get_or fs i f) (first : FirstPut old a fs i count) where
  pub one_more_put : (more : ℕ) → PutsAll a b count (file_bytes f) (Ok more) → FirstPut old b fs (i + 1) more
  one_more_put more put =
      let next = next_part_of file_bytes fs i f f less is in
      record {
        appended = Appends-as _ _ next (Appends-trans _ _ _ _ _ first.appended put.0);
        total = IsCounted-as 0 more next (IsCounted-more 0 count more (flat_map file_bytes (take i fs)) (file_bytes f) first.total put.1);
        works = λ _. put.2 (some_file_byte f);
      }

  pub chain_stops : {w : ℕ} → IsWellFormedChain chain_limit fs → Breaks a b (fresh count) (file_bytes f) w → StopsAt old b.held b.failed (chain_bytes fs) w
  chain_stops good broken =
      let parts = parts_of file_bytes fs i f f less is in
      StopsAt-as parts (stops_at (flat_map file_bytes (take i fs)) (file_bytes f) (flat_map file_bytes (drop (i + 1) fs)) count
      (subst (λ (x : List ℕ). length x < 2 ^ 64) (sym parts) (chain_short fs good.within good.each)) first.appended first.total broken)

-- ---- bytes in two parts

-- The first part went out, and some bytes of the second one.
pub second-stops : (before mid after : Option (List ℕ)) {failed : Bool} (front rest all : List ℕ) (n written : ℕ) → front ++ rest ≡ all → n ≡ length front
    → Appends before mid front → Appends mid after (take written rest) → written < length rest → failed ≡ true → StopsAt before after failed all (n + written)
second-stops before mid after front rest all n written joined size first second less stopped =
    let is : take (n + written) all ≡ front ++ take written rest =
    ap (λ m. take (m + written) all) size ∙ ap (take (length front + written)) (sym joined) ∙ take-append-add front rest written in record {
      part = omega (arith, ap length joined, length-append front rest, size, less);
      first = Appends-as _ _ (sym is) (Appends-trans _ _ _ _ _ first second);
      stopped = stopped;
    }
