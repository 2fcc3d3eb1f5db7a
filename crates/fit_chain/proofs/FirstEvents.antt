-- The first events of some bytes are the events of some first bytes.
use Rattle.fit_chain.proofs.Common.{◌≡◌, ◌⊎◌, inl, inr, ℕ, ◌-◌, ◌≤◌, List, [], ◌∷◌, ◌++◌, length, map, refl, sym, ap, ◌∙◌, subst, arith, append_assoc}
use Rattle.fit_chain.proofs.Common.{length-append, append-nil, AllByRecursion, flat_map, little_bytes, Header, HeaderFits, header_bytes, records_bytes-append}
use Rattle.fit_chain.proofs.Common.{FitFile, Record, Environment, empty_environment, learn, learn_all, body, summed, file_bytes, chain_bytes, IsWellFormed}
use Rattle.fit_chain.proofs.Common.{AllFit, records_bytes, checksum, Event, header, file_end, file_events, progress_events}
use Rattle.fit_chain.proofs.Common.{Progress, at_header, at_data, progress_bytes, IsUnfinished}
use Rattle.fit_chain.proofs.Whole.{unfinished, partial_nothing}
use Rattle.fit_chain.specs.Events.{item}

-- nothing of what comes next
abbrev pub HasNoPart : {A : Type 0} → Progress A → Type 0
HasNoPart (at_header front) = front ≡ []
HasNoPart (at_data h n records part) = part ≡ []

-- first bytes with these events
pub record First {A : Type 0} (bytes : List ℕ) (events : List (Event A)) : Type 0 where
  pub files : List (FitFile A)
  pub progress : Progress A
  pub more : List ℕ
  pub each : AllByRecursion IsWellFormed files
  pub next : IsUnfinished progress
  pub none : HasNoPart progress
  pub parted : bytes ≡ (chain_bytes files ++ progress_bytes progress) ++ more
  pub told : events ≡ flat_map file_events files ++ progress_events progress

-- ---- records

-- some first records, and the others
pub record Firsts {A : Type 0} (rs : List (Record A)) (front : List (Event A)) : Type 0 where
  pub firsts : List (Record A)
  pub lasts : List (Record A)
  pub joined : rs ≡ firsts ++ lasts
  pub items : front ≡ map item firsts

none_first : {A : Type 0} (rs : List (Record A)) → Firsts rs []
none_first rs = record { firsts = []; lasts = rs; joined = refl; items = refl }

one_more : {A : Type 0} (r : Record A) (rs : List (Record A)) (x : Event A) (front : List (Event A)) → x ≡ item r → Firsts rs front
    → Firsts (r ∷ rs) (x ∷ front)
one_more r rs x front is s = record {
  firsts = r ∷ s.firsts;
  lasts = s.lasts;
  joined = ap (λ l. r ∷ l) s.joined;
  items = (λ i. is i ∷ s.items i);
}

first_items : {A : Type 0} (front later : List (Event A)) (rs : List (Record A)) → front ++ later ≡ map item rs → Firsts rs front
first_items [] later rs e = none_first rs
first_items (x ∷ front) later [] e = absurd cc
first_items {A} (x ∷ front) later (r ∷ rs) e =
    let same : x ≡ item r = cc in
    let rest : front ++ later ≡ map item rs = cc in
    one_more r rs x front same (first_items front later rs rest)

-- all records and the end of their file, and some events after it
pub record Past {A : Type 0} (rs : List (Record A)) (front later rest : List (Event A)) : Type 0 where
  pub past : List (Event A)
  pub is : front ≡ map item rs ++ file_end ∷ past
  pub beyond : past ++ later ≡ rest

items_or_all : {A : Type 0} (front later rest : List (Event A)) (rs : List (Record A)) → front ++ later ≡ map item rs ++ file_end ∷ rest
    → Firsts rs front ⊎ Past rs front later rest
items_or_all [] later rest rs e = inl (none_first rs)
items_or_all (x ∷ front) later rest [] e = inr (record { past = front; is = cc; beyond = cc })
items_or_all {A} (x ∷ front) later rest (r ∷ rs) e =
    let same : x ≡ item r = cc in
    let others : front ++ later ≡ map item rs ++ file_end ∷ rest = cc in
    elim (items_or_all front later rest rs others) [
      | inl s ↦ inl (one_more r rs x front same s)
      | inr s ↦ inr (record { past = s.past; is = λ i. same i ∷ s.is i; beyond = s.beyond })
    ]

first_fit : {A : Type 0} (e : Environment A) (rs ss : List (Record A)) → AllFit e (rs ++ ss) → AllFit e rs
first_fit e [] ss all = tt
first_fit e (r ∷ rs) ss all = (all.0, first_fit (learn e r) rs ss all.1)

module _ {A : Type 0} (h : Header) (n : ℕ) (rs : List (Record A)) (tail : List ℕ) (fits : HeaderFits h n) (fit : AllFit empty_environment rs)
    (within : length (records_bytes empty_environment rs) ≤ n) where
  first_data : (front : List (Event A)) → Firsts rs front → First ((header_bytes h n ++ records_bytes empty_environment rs) ++ tail) (header h n ∷ front)
  first_data front s =
      let e = learn_all empty_environment s.firsts in
      let own = records_bytes empty_environment s.firsts in
      let rest = records_bytes e s.lasts in
      let all : records_bytes empty_environment rs ≡ own ++ rest =
      ap (records_bytes empty_environment) s.joined ∙ records_bytes-append empty_environment s.firsts s.lasts in
      record {
        files = [];
        progress = at_data h n s.firsts [];
        more = rest ++ tail;
        each = tt;
        next = (
          fits,
          first_fit empty_environment s.firsts s.lasts (subst (AllFit empty_environment) s.joined fit),
          omega (arith, within, ap length all, length-append own rest),
          partial_nothing e (n - length own),
        );
        none = refl;
        parted = ap (λ b. (header_bytes h n ++ b) ++ tail) all ∙ ap (λ b. b ++ tail) (sym (append_assoc (header_bytes h n) own rest))
            ∙ append_assoc (header_bytes h n ++ own) rest tail ∙ ap (λ b. b ++ (rest ++ tail)) (sym (append-nil (header_bytes h n ++ own)));
        told = ap (λ es. header h n ∷ es) s.items;
      }

-- ---- files

one_file_more : {A : Type 0} (f : FitFile A) (bytes : List ℕ) (front past : List (Event A)) → IsWellFormed f
    → front ≡ file_events f ++ past → First bytes past → First (file_bytes f ++ bytes) front
one_file_more f bytes front past well is s = record {
  files = f ∷ s.files;
  progress = s.progress;
  more = s.more;
  each = (well, s.each);
  next = s.next;
  none = s.none;
  parted = ap (λ b. file_bytes f ++ b) s.parted ∙ sym (append_assoc (file_bytes f) (chain_bytes s.files ++ progress_bytes s.progress) s.more)
      ∙ ap (λ b. b ++ s.more) (sym (append_assoc (file_bytes f) (chain_bytes s.files) (progress_bytes s.progress)));
  told = is ∙ ap (λ es. file_events f ++ es) s.told
      ∙ sym (append_assoc (file_events f) (flat_map file_events s.files) (progress_events s.progress));
}

-- the events of a file and others, without their header
after_header : {A : Type 0} (f : FitFile A) (others rest : List (Event A))
    → (file_events f ++ others) ++ rest ≡ header f.header (length (body f)) ∷ map item f.records ++ file_end ∷ (others ++ rest)
after_header f others rest = append_assoc (file_events f) others rest
    ∙ ap (λ es. header f.header (length (body f)) ∷ es) (append_assoc (map item f.records) (file_end ∷ []) (others ++ rest))

pub first_of : {A : Type 0} (fs : List (FitFile A)) (g : Progress A) (front later : List (Event A)) → AllByRecursion IsWellFormed fs → IsUnfinished g
    → front ++ later ≡ flat_map file_events fs ++ progress_events g → First (chain_bytes fs ++ progress_bytes g) front
first_of {A} fs g [] later each u e = record {
  files = [];
  progress = at_header [];
  more = chain_bytes fs ++ progress_bytes g;
  each = tt;
  next = unfinished A [] (λ h n rest fits is. cc);
  none = refl;
  parted = refl;
  told = refl;
}
first_of [] (at_header part) (x ∷ front) later each u e = absurd cc
first_of {A} [] (at_data h n rs part) (x ∷ front) later each u e =
    let same : x ≡ header h n = cc in
    let rest : front ++ later ≡ map item rs = cc in
    subst (λ y. First (progress_bytes (at_data h n rs part)) (y ∷ front)) (sym same)
    (first_data h n rs part u.0 u.1 u.2 front (first_items front later rs rest))
first_of {A} (f ∷ fs) g (x ∷ front) later each u e =
    let n = length (body f) in
    let parts : x ∷ (front ++ later) ≡ header f.header n ∷ map item f.records ++ file_end ∷ (flat_map file_events fs ++ progress_events g) =
    e ∙ after_header f (flat_map file_events fs) (progress_events g) in
    let same : x ≡ header f.header n = cc in
    let tail : front ++ later ≡ map item f.records ++ file_end ∷ (flat_map file_events fs ++ progress_events g) = cc in
    let sum : List ℕ = little_bytes 2 (checksum (summed f)) in
    let bytes : List ℕ = chain_bytes fs ++ progress_bytes g in
    let spelled : (file_bytes f ++ chain_bytes fs) ++ progress_bytes g ≡ file_bytes f ++ bytes =
    append_assoc (file_bytes f) (chain_bytes fs) (progress_bytes g) in
    elim (items_or_all front later (flat_map file_events fs ++ progress_events g) f.records tail) [
      | inl s ↦ subst (λ b. First b (x ∷ front)) (sym (spelled ∙ append_assoc (summed f) sum bytes))
          (subst (λ y. First (summed f ++ (sum ++ bytes)) (y ∷ front)) (sym same)
          (first_data f.header n f.records (sum ++ bytes) each.0.header each.0.records (omega arith) front s))
      | inr s ↦ subst (λ b. First b (x ∷ front)) (sym spelled)
          (one_file_more f bytes (x ∷ front) s.past each.0
          ((λ i. same i ∷ s.is i) ∙ ap (λ es. header f.header n ∷ es) (sym (append_assoc (map item f.records) (file_end ∷ []) s.past)))
          (first_of fs g s.past later each.1 u s.beyond))
    ]
