-- The bytes so far come in one way only: which files are whole, and what there is of the next one.
use Rattle.fit_chain.proofs.Common.{◌≡◌, ℕ, zero, suc, ◌-◌, ◌<◌, ◌≤◌, List, [], ◌∷◌, ◌++◌, length, take, refl, sym, ap, ◌∙◌, subst, arith, append_assoc}
use Rattle.fit_chain.proofs.Common.{length-append, AllByRecursion, append_cancel_left, take-append_seam, little_bytes, checksum, Header, HeaderFits}
use Rattle.fit_chain.proofs.Common.{header_bytes, one_header, FitFile, Record, Environment, empty_environment, learn, learn_all, Fits, record_bytes, AllFit}
use Rattle.fit_chain.proofs.Common.{records_bytes, body, summed, file_bytes, chain_bytes, IsWellFormed, Progress, at_header, at_data, progress_bytes, IsPartial}
use Rattle.fit_chain.proofs.Common.{IsUnfinished, HasCome, same_record, no_bytes, same_file}

-- a record at the front of what is partial leaves no room
pub no_record : {A : Type 0} (e : Environment A) (room : ℕ) (part rest : List ℕ) (r : Record A) → IsPartial e room part → Fits e r
    → part ≡ record_bytes e r ++ rest → room ≡ 0
no_record e zero part rest r p f h = refl
no_record e (suc room) part rest r p f h =
    absurd (p r (length (record_bytes e r)) (f, ap (take (length (record_bytes e r))) h ∙ take-append_seam (record_bytes e r) rest))

-- the rest of the room after the first record
less : {A : Type 0} (e : Environment A) (r : Record A) (rs : List (Record A)) (room : ℕ)
    → room - length (record_bytes e r ++ records_bytes (learn e r) rs) ≡ room - length (record_bytes e r) - length (records_bytes (learn e r) rs)
less e r rs room = omega (arith, length-append (record_bytes e r) (records_bytes (learn e r) rs))

fewer : {A : Type 0} (e : Environment A) (r : Record A) (rs : List (Record A)) (room : ℕ)
    → length (record_bytes e r ++ records_bytes (learn e r) rs) ≤ room → length (records_bytes (learn e r) rs) ≤ room - length (record_bytes e r)
fewer e r rs room h = omega (arith, length-append (record_bytes e r) (records_bytes (learn e r) rs))

-- whole records and a part of the next one are told apart
one_part : {A : Type 0} (e : Environment A) (room : ℕ) (rs ss : List (Record A)) (x y : List ℕ) → AllFit e rs → AllFit e ss
    → length (records_bytes e rs) ≤ room → length (records_bytes e ss) ≤ room
    → IsPartial (learn_all e rs) (room - length (records_bytes e rs)) x → IsPartial (learn_all e ss) (room - length (records_bytes e ss)) y
    → records_bytes e rs ++ x ≡ records_bytes e ss ++ y → (rs ≡ ss) × (x ≡ y)
one_part e room [] [] x y p q l m u v h = (refl, h)
one_part e room [] (s ∷ ss) x y p q l m u v h =
    let none = no_record e (room - 0) x (records_bytes (learn e s) ss ++ y) s u q.0 (h ∙ append_assoc (record_bytes e s) (records_bytes (learn e s) ss) y) in
    absurd (no_bytes e s (records_bytes (learn e s) ss) (omega (arith, none)))
one_part e room (r ∷ rs) [] x y p q l m u v h =
    let none = no_record e (room - 0) y (records_bytes (learn e r) rs ++ x) r v p.0 (sym h ∙ append_assoc (record_bytes e r) (records_bytes (learn e r) rs) x)
    in
    absurd (no_bytes e r (records_bytes (learn e r) rs) (omega (arith, none)))
one_part e room (r ∷ rs) (s ∷ ss) x y p q l m u v h =
    let first = same_record e r s (records_bytes (learn e r) rs ++ x) (records_bytes (learn e s) ss ++ y) p.0 q.0
    (sym (append_assoc (record_bytes e r) (records_bytes (learn e r) rs) x) ∙ h ∙ append_assoc (record_bytes e s) (records_bytes (learn e s) ss) y) in
    let same = first.0 in
    let others = one_part (learn e r) (room - length (record_bytes e r)) rs ss x y p.1
    (subst (λ t. AllFit (learn e t) ss) (sym same) q.1)
    (fewer e r rs room l)
    (subst (λ t. length (records_bytes (learn e t) ss) ≤ room - length (record_bytes e t)) (sym same) (fewer e s ss room m))
    (subst (λ n. IsPartial (learn_all (learn e r) rs) n x) (less e r rs room) u)
    (subst (λ t. IsPartial (learn_all (learn e t) ss) (room - length (record_bytes e t) - length (records_bytes (learn e t) ss)) y) (sym same)
    (subst (λ n. IsPartial (learn_all (learn e s) ss) n y) (less e s ss room) v))
    (subst (λ t. records_bytes (learn e r) rs ++ x ≡ records_bytes (learn e t) ss ++ y) (sym same) first.1) in
    (cc (same, others.0), others.1)

-- whole records and a part of the next one aren't all records of a data section and two bytes more
not_whole : {A : Type 0} (e : Environment A) (room : ℕ) (rs ss : List (Record A)) (x y : List ℕ) (c d : ℕ) → AllFit e rs → AllFit e ss
    → length (records_bytes e rs) ≤ room → length (records_bytes e ss) ≡ room
    → IsPartial (learn_all e rs) (room - length (records_bytes e rs)) x
    → records_bytes e rs ++ x ≡ records_bytes e ss ++ c ∷ d ∷ y → ⊥
not_whole e room [] [] x y c d p q l m u h =
    let none : room ≡ 0 = omega arith in
    let short : length x < 2 = subst (λ n. IsPartial e (n - 0) x) none u in
    omega (arith, short, ap length h)
not_whole e room [] (s ∷ ss) x y c d p q l m u h =
    let none = no_record e (room - 0) x (records_bytes (learn e s) ss ++ c ∷ d ∷ y) s u q.0
    (h ∙ append_assoc (record_bytes e s) (records_bytes (learn e s) ss) (c ∷ d ∷ y)) in
    no_bytes e s (records_bytes (learn e s) ss) (omega (arith, none))
not_whole e room (r ∷ rs) [] x y c d p q l m u h = no_bytes e r (records_bytes (learn e r) rs) (omega arith)
not_whole e room (r ∷ rs) (s ∷ ss) x y c d p q l m u h =
    let first = same_record e r s (records_bytes (learn e r) rs ++ x) (records_bytes (learn e s) ss ++ c ∷ d ∷ y) p.0 q.0
    (sym (append_assoc (record_bytes e r) (records_bytes (learn e r) rs) x) ∙ h ∙ append_assoc (record_bytes e s) (records_bytes (learn e s) ss) (c ∷ d ∷ y)) in
    let same = first.0 in
    let left : length (records_bytes (learn e s) ss) ≡ room - length (record_bytes e s) =
    omega (arith, length-append (record_bytes e s) (records_bytes (learn e s) ss)) in
    not_whole (learn e r) (room - length (record_bytes e r)) rs ss x y c d p.1
    (subst (λ t. AllFit (learn e t) ss) (sym same) q.1)
    (fewer e r rs room l)
    (subst (λ t. length (records_bytes (learn e t) ss) ≡ room - length (record_bytes e t)) (sym same) left)
    (subst (λ n. IsPartial (learn_all (learn e r) rs) n x) (less e r rs room) u)
    (subst (λ t. records_bytes (learn e r) rs ++ x ≡ records_bytes (learn e t) ss ++ c ∷ d ∷ y) (sym same) first.1)

-- a header begins no part of a header
pub no_header : (A : Type 0) (front : List ℕ) (h : Header) (n : ℕ) (rest : List ℕ) → IsUnfinished {A = A} (at_header front) → HeaderFits h n
    → front ≡ header_bytes h n ++ rest → ⊥
no_header A front h n rest p f e = p h n (length (header_bytes h n)) (f, ap (take (length (header_bytes h n))) e ∙ take-append_seam (header_bytes h n) rest)

-- no whole file begins what is unfinished
pub no_file : {A : Type 0} (g : Progress A) (f : FitFile A) (rest : List ℕ) → IsUnfinished g → IsWellFormed f → progress_bytes g ≡ file_bytes f ++ rest → ⊥
no_file {A} (at_header front) f rest p q e =
    no_header A front f.header (length (body f)) _ p q.header
    (e ∙ append_assoc (summed f) (little_bytes 2 (checksum (summed f))) rest
    ∙ append_assoc (header_bytes f.header (length (body f))) (body f) (little_bytes 2 (checksum (summed f)) ++ rest))
no_file (at_data h n records part) f rest p q e =
    let parts = sym (append_assoc (header_bytes h n) (records_bytes empty_environment records) part) ∙ e
    ∙ append_assoc (summed f) (little_bytes 2 (checksum (summed f))) rest
    ∙ append_assoc (header_bytes f.header (length (body f))) (body f) (little_bytes 2 (checksum (summed f)) ++ rest) in
    let header = one_header h f.header n (length (body f)) _ _ p.0 q.header parts in
    not_whole empty_environment n records f.records part rest _ _ p.1 q.records p.2 (sym header.1) p.3 header.2

same_progress : {A : Type 0} (g k : Progress A) → IsUnfinished g → IsUnfinished k → progress_bytes g ≡ progress_bytes k → g ≡ k
same_progress (at_header a) (at_header b) p q e = ap at_header e
same_progress {A} (at_header a) (at_data h n records part) p q e =
    absurd (no_header A a h n _ p q.0 (e ∙ append_assoc (header_bytes h n) (records_bytes empty_environment records) part))
same_progress {A} (at_data h n records part) (at_header b) p q e =
    absurd (no_header A b h n _ q p.0 (sym e ∙ append_assoc (header_bytes h n) (records_bytes empty_environment records) part))
same_progress (at_data h n rs x) (at_data k m ss y) p q e =
    let parts = sym (append_assoc (header_bytes h n) (records_bytes empty_environment rs) x) ∙ e
    ∙ append_assoc (header_bytes k m) (records_bytes empty_environment ss) y in
    let header = one_header h k n m _ _ p.0 q.0 parts in
    let records = one_part empty_environment n rs ss x y p.1 q.1 p.2
    (subst (λ l. length (records_bytes empty_environment ss) ≤ l) (sym header.1) q.2) p.3
    (subst (λ l. IsPartial (learn_all empty_environment ss) (l - length (records_bytes empty_environment ss)) y) (sym header.1) q.3) header.2 in
    λ i. at_data (header.0 i) (header.1 i) (records.0 i) (records.1 i)

-- the bytes have come in one way
one_way : {A : Type 0} (fs gs : List (FitFile A)) (g k : Progress A) → AllByRecursion IsWellFormed fs → AllByRecursion IsWellFormed gs → IsUnfinished g
    → IsUnfinished k
    → chain_bytes fs ++ progress_bytes g ≡ chain_bytes gs ++ progress_bytes k → (fs ≡ gs) × (g ≡ k)
one_way [] [] g k p q u v e = (refl, same_progress g k u v e)
one_way [] (f ∷ gs) g k p q u v e = absurd (no_file g f _ u q.0 (e ∙ append_assoc (file_bytes f) (chain_bytes gs) (progress_bytes k)))
one_way (f ∷ fs) [] g k p q u v e = absurd (no_file k f _ v p.0 (sym e ∙ append_assoc (file_bytes f) (chain_bytes fs) (progress_bytes g)))
one_way (f ∷ fs) (d ∷ gs) g k p q u v e =
    let parts = sym (append_assoc (file_bytes f) (chain_bytes fs) (progress_bytes g)) ∙ e ∙ append_assoc (file_bytes d) (chain_bytes gs) (progress_bytes k) in
    let first = same_file f d _ _ p.0 q.0 parts in
    let others = one_way fs gs g k p.1 q.1 u v
    (append_cancel_left (file_bytes f) _ _ (subst
    (λ t. file_bytes f ++ (chain_bytes fs ++ progress_bytes g) ≡ file_bytes t ++ (chain_bytes gs ++ progress_bytes k)) (sym first) parts)) in
    (cc (first, others.0), others.1)

pub one_place : {A : Type 0} (fs gs : List (FitFile A)) (g k : Progress A) (bytes : List ℕ) → HasCome fs g bytes → HasCome gs k bytes → (fs ≡ gs) × (g ≡ k)
one_place fs gs g k bytes p q = one_way fs gs g k p.files q.files p.next q.next (sym p.spelled ∙ q.spelled)
