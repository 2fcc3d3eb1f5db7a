-- What a chain tells of the bytes that have come of it: its first files are the whole ones, and its next file begins with the rest.
use Rattle.fit_chain.proofs.Common.{◌≡◌, ◌⊎◌, inl, inr, ℕ, ◌+◌, ◌-◌, ◌<◌, ◌≤◌, List, [], ◌∷◌, ◌++◌, length, refl, sym, ap, ◌∙◌, subst, arith, append_assoc}
use Rattle.fit_chain.proofs.Common.{length-append, AllByRecursion, append_cancel_left, little_bytes, checksum, Header, header_bytes, one_header, FitFile}
use Rattle.fit_chain.proofs.Common.{Record, Environment, empty_environment, learn, learn_all, record_bytes, AllFit, records_bytes, body, summed, file_bytes}
use Rattle.fit_chain.proofs.Common.{chain_bytes, IsWellFormed, IsChain, same_record, no_bytes, same_file, Progress, at_header, at_data, progress_bytes}
use Rattle.fit_chain.proofs.Common.{IsPartial, IsUnfinished, HasCome, split}
use Rattle.fit_chain.proofs.Completions.{regroup}
use Rattle.fit_chain.proofs.OnePlace.{no_header, no_record}

-- There are bytes.
abbrev IsSome : List ℕ → Type 0
IsSome [] = ⊥
IsSome (b ∷ bytes) = Unit {0}

-- ---- whole files

-- the files of a chain after the first ones
pub record Follow {A : Type 0} (fs gs : List (FitFile A)) (y : List ℕ) : Type 0 where
  pub others : List (FitFile A)
  pub each : AllByRecursion IsWellFormed others
  pub joined : gs ≡ fs ++ others
  pub spelled : y ≡ chain_bytes others

follow : {A : Type 0} (fs gs : List (FitFile A)) (y : List ℕ) → AllByRecursion IsWellFormed fs → AllByRecursion IsWellFormed gs
    → chain_bytes fs ++ y ≡ chain_bytes gs → Follow fs gs y
follow [] gs y p q e = record { others = gs; each = q; joined = refl; spelled = e }
follow (f ∷ fs) [] y p q e = absurd (subst IsSome e tt)
follow (f ∷ fs) (d ∷ gs) y p q e =
    let parts : file_bytes f ++ (chain_bytes fs ++ y) ≡ file_bytes d ++ chain_bytes gs = sym (append_assoc (file_bytes f) (chain_bytes fs) y) ∙ e in
    let first = same_file f d _ _ p.0 q.0 parts in
    let tail = append_cancel_left (file_bytes f) (chain_bytes fs ++ y) (chain_bytes gs)
    (subst (λ t. file_bytes f ++ (chain_bytes fs ++ y) ≡ file_bytes t ++ chain_bytes gs) (sym first) parts) in
    let rest = follow fs gs y p.1 q.1 tail in
    record { others = rest.others; each = rest.each; joined = λ i. sym first i ∷ rest.joined i; spelled = rest.spelled }

-- ---- whole records

-- the records of a data section after the first ones, and what follows the data section
pub record Remain {A : Type 0} (e : Environment A) (rs ss : List (Record A)) (y tail : List ℕ) : Type 0 where
  pub others : List (Record A)
  pub fit : AllFit (learn_all e rs) others
  pub total : length (records_bytes e ss) ≡ length (records_bytes e rs) + length (records_bytes (learn_all e rs) others)
  pub joined : ss ≡ rs ++ others
  pub spelled : y ≡ records_bytes (learn_all e rs) others ++ tail

pub remain : {A : Type 0} (e : Environment A) (rs ss : List (Record A)) (y tail : List ℕ) → AllFit e rs → AllFit e ss
    → length (records_bytes e rs) ≤ length (records_bytes e ss) → records_bytes e rs ++ y ≡ records_bytes e ss ++ tail → Remain e rs ss y tail
remain e [] ss y tail p q l h = record { others = ss; fit = q; total = omega arith; joined = refl; spelled = h }
remain e (r ∷ rs) [] y tail p q l h = absurd (no_bytes e r (records_bytes (learn e r) rs) (omega (arith, l)))
remain e (r ∷ rs) (s ∷ ss) y tail p q l h =
    let first = same_record e r s (records_bytes (learn e r) rs ++ y) (records_bytes (learn e s) ss ++ tail) p.0 q.0
    (sym (append_assoc (record_bytes e r) (records_bytes (learn e r) rs) y) ∙ h ∙ append_assoc (record_bytes e s) (records_bytes (learn e s) ss) tail) in
    let same = first.0 in
    let both = length-append (record_bytes e r) (records_bytes (learn e r) rs) in
    let and_both = length-append (record_bytes e s) (records_bytes (learn e s) ss) in
    let as_long : length (record_bytes e r) ≡ length (record_bytes e s) = ap (λ t. length (record_bytes e t)) same in
    let less : length (records_bytes (learn e r) rs) ≤ length (records_bytes (learn e s) ss) = omega (arith, l, both, and_both, as_long) in
    let rest = remain (learn e r) rs ss y tail p.1
    (subst (λ t. AllFit (learn e t) ss) (sym same) q.1)
    (subst (λ t. length (records_bytes (learn e r) rs) ≤ length (records_bytes (learn e t) ss)) (sym same) less)
    (subst (λ t. records_bytes (learn e r) rs ++ y ≡ records_bytes (learn e t) ss ++ tail) (sym same) first.1) in
    let as_many : length (records_bytes (learn e r) ss) ≡ length (records_bytes (learn e s) ss) = ap (λ t. length (records_bytes (learn e t) ss)) same in
    record {
      others = rest.others;
      fit = rest.fit;
      total = omega (arith, both, and_both, as_long, as_many, rest.total);
      joined = λ i. sym same i ∷ rest.joined i;
      spelled = rest.spelled;
    }

-- ---- the next file

-- The next file's header goes on with the bytes of one.
pub record HeaderFollows {A : Type 0} (front x : List ℕ) (others : List (FitFile A)) : Type 0 where
  pub file : FitFile A
  pub after : List (FitFile A)
  pub are : others ≡ file ∷ after
  pub well : IsWellFormed file
  pub more : List ℕ
  pub header : header_bytes file.header (length (body file)) ≡ front ++ more
  pub beyond : x ≡ more ++ (body file ++ (little_bytes 2 (checksum (summed file)) ++ chain_bytes after))

pub header_follows : {A : Type 0} (front x : List ℕ) (others : List (FitFile A)) → IsUnfinished {A = A} (at_header front) → AllByRecursion IsWellFormed others
    → front ++ x ≡ chain_bytes others → ((front ++ x ≡ []) × (others ≡ [])) ⊎ HeaderFollows front x others
header_follows front x [] u p e = inl (e, refl)
header_follows {A} front x (f ∷ after) u p e =
    let tail : List ℕ = body f ++ (little_bytes 2 (checksum (summed f)) ++ chain_bytes after) in
    let parts : front ++ x ≡ header_bytes f.header (length (body f)) ++ tail =
    e ∙ regroup (header_bytes f.header (length (body f))) (body f) (little_bytes 2 (checksum (summed f))) (chain_bytes after) in
    elim (split front (header_bytes f.header (length (body f))) x tail parts) [
      | inl s ↦ inr (record { file = f; after = after; are = refl; well = p.0; more = s.more; header = s.second; beyond = s.beyond })
      | inr s ↦ absurd (no_header A front f.header (length (body f)) (s.next ∷ s.more) u p.0.header s.first)
    ]

-- ---- its data section

-- The next record goes on with the part.
pub record RecordFollows {A : Type 0} (e : Environment A) (room : ℕ) (part x tail : List ℕ) : Type 0 where
  pub whole : Record A
  pub after : List (Record A)
  pub fit : AllFit e (whole ∷ after)
  pub more : List ℕ
  pub some : 0 < room
  pub begins : record_bytes e whole ≡ part ++ more
  pub total : length part + (length more + length (records_bytes (learn e whole) after)) ≡ room
  pub beyond : x ≡ more ++ (records_bytes (learn e whole) after ++ tail)

-- The data section is over, and what comes is the closing checksum.
pub record SumFollows {A : Type 0} (room : ℕ) (part x tail : List ℕ) (others : List (Record A)) : Type 0 where
  pub over : room ≡ 0
  pub none : others ≡ []
  pub comes : part ++ x ≡ tail

part_follows : {A : Type 0} (e : Environment A) (room : ℕ) (others : List (Record A)) (part x tail : List ℕ) → IsPartial e room part → AllFit e others
    → room ≡ length (records_bytes e others) → part ++ x ≡ records_bytes e others ++ tail
    → RecordFollows e room part x tail ⊎ SumFollows room part x tail others
part_follows e room [] part x tail u p l h = inr (record { over = l; none = refl; comes = h })
part_follows e room (r ∷ after) part x tail u p l h =
    let parts : part ++ x ≡ record_bytes e r ++ (records_bytes (learn e r) after ++ tail) =
    h ∙ append_assoc (record_bytes e r) (records_bytes (learn e r) after) tail in
    let both = length-append (record_bytes e r) (records_bytes (learn e r) after) in
    elim (split part (record_bytes e r) x (records_bytes (learn e r) after ++ tail) parts) [
      | inl s ↦ inl (record {
        whole = r;
        after = after;
        fit = p;
        more = s.more;
        some = omega (arith, l, no_bytes e r (records_bytes (learn e r) after));
        begins = s.second;
        total = omega (arith, both, l, ap length s.second, length-append part s.more);
        beyond = s.beyond;
      })
      | inr s ↦ absurd (no_bytes e r (records_bytes (learn e r) after) (sym l ∙ no_record e room part (s.next ∷ s.more) r u p.0 s.first))
    ]

-- The next file has the header that has come, its records begin with the whole ones, and then come these bytes.
pub record DataFollows {A : Type 0} (h : Header) (n : ℕ) (records : List (Record A)) (part x : List ℕ) (others : List (FitFile A)) : Type 0 where
  pub file : FitFile A
  pub after : List (FitFile A)
  pub are : others ≡ file ∷ after
  pub well : IsWellFormed file
  pub same_header : file.header ≡ h
  pub same_size : length (body file) ≡ n
  pub next : List (Record A)
  pub same_records : file.records ≡ records ++ next
  pub goes : let room = n - length (records_bytes empty_environment records) in let tail = little_bytes 2 (checksum (summed file)) ++ chain_bytes after in
      RecordFollows (learn_all empty_environment records) room part x tail ⊎ SumFollows room part x tail next

pub data_follows : {A : Type 0} (h : Header) (n : ℕ) (records : List (Record A)) (part x : List ℕ) (others : List (FitFile A))
    → IsUnfinished (at_data h n records part) → AllByRecursion IsWellFormed others → progress_bytes (at_data h n records part) ++ x ≡ chain_bytes others
    → DataFollows h n records part x others
data_follows h n records part x [] u p e = absurd (subst IsSome e tt)
data_follows h n records part x (f ∷ after) u p e =
    let tail : List ℕ = little_bytes 2 (checksum (summed f)) ++ chain_bytes after in
    let parts : header_bytes h n ++ (records_bytes empty_environment records ++ (part ++ x)) ≡ header_bytes f.header (length (body f)) ++ (body f ++ tail) =
    sym (regroup (header_bytes h n) (records_bytes empty_environment records) part x) ∙ e
    ∙ regroup (header_bytes f.header (length (body f))) (body f) (little_bytes 2 (checksum (summed f))) (chain_bytes after) in
    let header = one_header h f.header n (length (body f)) _ _ u.0 p.0.header parts in
    let within : length (records_bytes empty_environment records) ≤ length (body f) =
    subst (λ m. length (records_bytes empty_environment records) ≤ m) header.1 u.2 in
    let rest = remain empty_environment records f.records (part ++ x) tail u.1 p.0.records within header.2 in
    record {
      file = f;
      after = after;
      are = refl;
      well = p.0;
      same_header = sym header.0;
      same_size = sym header.1;
      next = rest.others;
      same_records = rest.joined;
      goes = part_follows (learn_all empty_environment records) (n - length (records_bytes empty_environment records)) rest.others part x tail u.3 rest.fit
          (omega (arith, header.1, rest.total)) rest.spelled;
    }

-- ---- all of it

-- The chain's files after the whole ones begin with the bytes of g.
pub chain_follows : {A : Type 0} (limit : ℕ) (fs : List (FitFile A)) (g : Progress A) (bytes x : List ℕ) (gs : List (FitFile A))
    → HasCome fs g bytes → IsChain limit gs (bytes ++ x) → Follow fs gs (progress_bytes g ++ x)
chain_follows limit fs g bytes x gs come chain =
    let joined : chain_bytes fs ++ (progress_bytes g ++ x) ≡ chain_bytes gs =
    sym (append_assoc (chain_bytes fs) (progress_bytes g) x) ∙ ap (λ b. b ++ x) (sym come.spelled) ∙ chain.1 in
    follow fs gs (progress_bytes g ++ x) come.files chain.0.each joined
