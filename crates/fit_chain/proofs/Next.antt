-- Where the bytes have come to with some bytes more.
use Rattle.fit_chain.proofs.Common.{◌≡◌, ℕ, zero, suc, ◌+◌, ◌-◌, ◌<◌, ◌≤◌, List, [], ◌∷◌, ◌++◌, length, refl, sym, ap, ◌∙◌, subst, arith, append_assoc}
use Rattle.fit_chain.proofs.Common.{length-append, flat_map, map, append-nil, little_bytes, checksum, Header, HeaderFits, header_bytes, IsFileHeader, FitFile}
use Rattle.fit_chain.proofs.Common.{Record, Environment, empty_environment, learn_all, Fits, record_bytes, records_bytes, file_bytes, chain_bytes}
use Rattle.fit_chain.proofs.Common.{all_fit-append, records_bytes-append, Progress, at_header, at_data, progress_bytes, IsPartial, IsUnfinished, HasCome, Event}
use Rattle.fit_chain.proofs.Common.{header, file_end, file_events, progress_events, AreEvents, NoRecord}
use Rattle.fit_chain.specs.Events.{item}
use Rattle.fit_chain.proofs.Completions.{all_append, chain_bytes-append}
use Rattle.fit_chain.proofs.OneReason.{one_list_of_events}
use Rattle.fit_chain.proofs.Whole.{NoHeader, unfinished, partial, partial_nothing}

-- the same files, and more of the next one
pub more_of : {A : Type 0} (fs : List (FitFile A)) (g k : Progress A) (bytes y : List ℕ) → HasCome fs g bytes → IsUnfinished k
    → progress_bytes k ≡ progress_bytes g ++ y → HasCome fs k (bytes ++ y)
more_of fs g k bytes y come u spelled = record {
  files = come.files;
  next = u;
  spelled = ap (λ b. b ++ y) come.spelled ∙ append_assoc (chain_bytes fs) (progress_bytes g) y ∙ ap (λ b. chain_bytes fs ++ b) (sym spelled);
}

pub more_header : {A : Type 0} (fs : List (FitFile A)) (front bytes y : List ℕ) → HasCome fs (at_header front) bytes → NoHeader (front ++ y)
    → HasCome fs (at_header (front ++ y)) (bytes ++ y)
more_header {A} fs front bytes y come none = more_of fs (at_header front) (at_header (front ++ y)) bytes y come (unfinished A (front ++ y) none) refl

pub whole_header : {A : Type 0} (fs : List (FitFile A)) (front bytes y : List ℕ) (h : Header) (n : ℕ) → HasCome fs (at_header front) bytes
    → IsFileHeader h n (front ++ y) → HasCome fs (at_data h n [] []) (bytes ++ y)
whole_header fs front bytes y h n come whole =
    more_of fs (at_header front) (at_data h n [] []) bytes y come (whole.0.0, tt, omega arith, partial_nothing empty_environment (n - 0))
    (append-nil (header_bytes h n ++ []) ∙ append-nil (header_bytes h n) ∙ sym whole.0.1)

module _ {A : Type 0} (fs : List (FitFile A)) (h : Header) (n : ℕ) (records : List (Record A)) (part bytes y : List ℕ)
    (come : HasCome fs (at_data h n records part) bytes) where
  abbrev known : Environment A
  known = learn_all empty_environment records

  abbrev taken : ℕ
  taken = length (records_bytes empty_environment records)

  regrouped : progress_bytes (at_data h n records (part ++ y)) ≡ progress_bytes (at_data h n records part) ++ y
  regrouped = sym (append_assoc (header_bytes h n ++ records_bytes empty_environment records) part y)

  pub more_record : 0 < n - taken → NoRecord known (part ++ y) → HasCome fs (at_data h n records (part ++ y)) (bytes ++ y)
  more_record some none =
      more_of fs (at_data h n records part) (at_data h n records (part ++ y)) bytes y come
      (come.next.0, come.next.1, come.next.2, partial known (n - taken) (part ++ y) some none) regrouped

  no_room : (room : ℕ) → room ≡ 0 → length (part ++ y) < 2 → IsPartial known room (part ++ y)
  no_room zero over short = short
  no_room (suc room) over short = absurd (omega arith)

  pub more_sum : n - taken ≡ 0 → length (part ++ y) < 2 → HasCome fs (at_data h n records (part ++ y)) (bytes ++ y)
  more_sum over short =
      more_of fs (at_data h n records part) (at_data h n records (part ++ y)) bytes y come
      (come.next.0, come.next.1, come.next.2, no_room (n - taken) over short) regrouped

  one_record_more : (r : Record A) → records_bytes empty_environment (records ++ r ∷ []) ≡ records_bytes empty_environment records ++ record_bytes known r
  one_record_more r = records_bytes-append empty_environment records (r ∷ [])
      ∙ ap (λ b. records_bytes empty_environment records ++ b) (append-nil (record_bytes known r))

  pub whole_record : (r : Record A) → Fits known r → record_bytes known r ≡ part ++ y → length (record_bytes known r) ≤ n - taken
      → HasCome fs (at_data h n (records ++ r ∷ []) []) (bytes ++ y)
  whole_record r fits spelled within =
      let all = one_record_more r in
      let size : length (records_bytes empty_environment (records ++ r ∷ [])) ≡ taken + length (record_bytes known r) =
      ap length all ∙ length-append (records_bytes empty_environment records) (record_bytes known r) in
      more_of fs (at_data h n records part) (at_data h n (records ++ r ∷ []) []) bytes y come (
        come.next.0,
        all_fit-append empty_environment records (r ∷ []) come.next.1 (fits, tt),
        omega (arith, size, within, come.next.2),
        partial_nothing (learn_all empty_environment (records ++ r ∷ [])) (n - length (records_bytes empty_environment (records ++ r ∷ []))),
      )
      (append-nil (header_bytes h n ++ records_bytes empty_environment (records ++ r ∷ []))
      ∙ ap (λ b. header_bytes h n ++ b) (all ∙ ap (λ b. records_bytes empty_environment records ++ b) spelled)
      ∙ sym (append_assoc (header_bytes h n) (records_bytes empty_environment records) (part ++ y)) ∙ regrouped)

  -- what a whole record leaves of the room
  pub room_after : (r : Record A) → length (record_bytes known r) ≤ n - taken
      → n - length (records_bytes empty_environment (records ++ r ∷ [])) ≡ n - taken - length (record_bytes known r)
  room_after r within =
      let size : length (records_bytes empty_environment (records ++ r ∷ [])) ≡ taken + length (record_bytes known r) =
      ap length (one_record_more r) ∙ length-append (records_bytes empty_environment records) (record_bytes known r) in
      omega (arith, size, within)

  abbrev file : FitFile A
  file = record { header = h; records = records }

  pub whole_file : n - taken ≡ 0 → part ++ y ≡ little_bytes 2 (checksum (header_bytes h n ++ records_bytes empty_environment records))
      → HasCome (fs ++ file ∷ []) (at_header []) (bytes ++ y)
  whole_file over sum =
      let size : n ≡ taken = omega (arith, over, come.next.2) in
      let spelled : file_bytes file ≡ progress_bytes (at_data h n records part) ++ y =
      ap (λ m. (header_bytes h m ++ records_bytes empty_environment records)
      ++ little_bytes 2 (checksum (header_bytes h m ++ records_bytes empty_environment records))) (sym size)
      ∙ ap (λ b. (header_bytes h n ++ records_bytes empty_environment records) ++ b) (sym sum) ∙ regrouped in
      record {
        files = all_append fs file come.files (record { header = subst (HeaderFits h) size come.next.0; records = come.next.1 });
        next = unfinished A [] (λ k m rest fits is. cc);
        spelled = ap (λ b. b ++ y) come.spelled ∙ append_assoc (chain_bytes fs) (progress_bytes (at_data h n records part)) y
            ∙ ap (λ b. chain_bytes fs ++ b) (sym spelled) ∙ sym (chain_bytes-append fs file) ∙ sym (append-nil (chain_bytes (fs ++ file ∷ [])));
      }

-- ---- events

pub events_of : {A : Type 0} → List (FitFile A) → Progress A → List (Event A)
events_of fs g = flat_map file_events fs ++ progress_events g

pub are_events : {A : Type 0} (fs : List (FitFile A)) (g : Progress A) (bytes : List ℕ) → HasCome fs g bytes → AreEvents bytes (events_of fs g)
unfolding events_of
are_events fs g bytes come = (fs, g, come, refl)

-- no event more
pub quiet : {A : Type 0} (fs : List (FitFile A)) (g k : Progress A) (p q : List ℕ) → HasCome fs g p → HasCome fs k q → progress_events k ≡ progress_events g
    → (events : List (Event A)) → AreEvents p events → AreEvents q events
unfolding events_of
quiet fs g k p q come next same events are =
    let one = one_list_of_events p events (events_of fs g) are (are_events fs g p come) in
    (fs, k, next, one ∙ ap (λ es. flat_map file_events fs ++ es) (sym same))

-- some events more
pub all_told : {A : Type 0} (fs gs : List (FitFile A)) (g k : Progress A) (p q : List ℕ) (xs : List (Event A)) → HasCome fs g p → HasCome gs k q
    → events_of gs k ≡ events_of fs g ++ xs
    → (events : List (Event A)) → AreEvents p events → AreEvents q (events ++ xs)
unfolding events_of
all_told fs gs g k p q xs come next more events are =
    let one = one_list_of_events p events (events_of fs g) are (are_events fs g p come) in
    (gs, k, next, ap (λ es. es ++ xs) one ∙ sym more)

pub header_told : {A : Type 0} (fs : List (FitFile A)) (front : List ℕ) (h : Header) (n : ℕ)
    → events_of fs (at_data h n [] []) ≡ events_of fs (at_header front) ++ header h n ∷ []
unfolding events_of
header_told fs front h n = sym (append_assoc (flat_map file_events fs) [] (header h n ∷ []))

map_item-append : {A : Type 0} (rs ss : List (Record A)) → map item (rs ++ ss) ≡ map item rs ++ map item ss
map_item-append [] ss = refl
map_item-append (r ∷ rs) ss = ap (λ es. item r ∷ es) (map_item-append rs ss)

pub items_told : {A : Type 0} (fs : List (FitFile A)) (h : Header) (n : ℕ) (records rs : List (Record A)) (part other : List ℕ)
    → events_of fs (at_data h n (records ++ rs) other) ≡ events_of fs (at_data h n records part) ++ map item rs
unfolding events_of
items_told fs h n records rs part other =
    ap (λ es. flat_map file_events fs ++ header h n ∷ es) (map_item-append records rs)
    ∙ sym (append_assoc (flat_map file_events fs) (header h n ∷ map item records) (map item rs))

flat_map-last : {A : Type 0} (fs : List (FitFile A)) (f : FitFile A) → flat_map file_events (fs ++ f ∷ []) ≡ flat_map file_events fs ++ file_events f
flat_map-last [] f = append-nil (file_events f)
flat_map-last (d ∷ fs) f = ap (λ es. file_events d ++ es) (flat_map-last fs f) ∙ sym (append_assoc (file_events d) (flat_map file_events fs) (file_events f))

pub end_told : {A : Type 0} (fs : List (FitFile A)) (h : Header) (n : ℕ) (records : List (Record A)) (part : List ℕ)
    → n ≡ length (records_bytes empty_environment records)
    → events_of (fs ++ record { header = h; records = records } ∷ []) (at_header []) ≡ events_of fs (at_data h n records part) ++ file_end ∷ []
unfolding events_of
end_told {A} fs h n records part size =
    let f : FitFile A = record { header = h; records = records } in
    append-nil (flat_map file_events (fs ++ f ∷ [])) ∙ flat_map-last fs f
    ∙ ap (λ m. flat_map file_events fs ++ (header h m ∷ map item records ++ file_end ∷ [])) (sym size)
    ∙ sym (append_assoc (flat_map file_events fs) (header h n ∷ map item records) (file_end ∷ []))
