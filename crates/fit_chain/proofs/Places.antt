-- Bytes with which a chain begins have come somewhere: to some whole files and some of the next one.
use Rattle.fit_chain.proofs.Common.{◌≡◌, inl, inr, ℕ, zero, suc, ◌-◌, ◌<◌, ◌≤◌, List, [], ◌∷◌, ◌++◌, length, refl, sym, ap, ◌∙◌, subst, arith, append_assoc}
use Rattle.fit_chain.proofs.Common.{length-append, AllByRecursion, append-nil, little_bytes, length-little_bytes, checksum, header_bytes, one_header, FitFile}
use Rattle.fit_chain.proofs.Common.{Record, Environment, empty_environment, learn, learn_all, record_bytes, AllFit, records_bytes, body, summed, file_bytes}
use Rattle.fit_chain.proofs.Common.{chain_bytes, IsWellFormed, IsViable, Progress, at_header, at_data, progress_bytes, IsPartial, IsUnfinished, HasCome, split}
use Rattle.fit_chain.proofs.Common.{before_record}
use Rattle.fit_chain.proofs.Whole.{unfinished, no_end, partial}

-- ---- records

-- these records are whole, and this is some of the next one or of what follows the data section
record Placed {A : Type 0} (e : Environment A) (room : ℕ) (q : List ℕ) : Type 0 where
  done : List (Record A)
  part : List ℕ
  fit : AllFit e done
  within : length (records_bytes e done) ≤ room
  open_ : IsPartial (learn_all e done) (room - length (records_bytes e done)) part
  spelled : q ≡ records_bytes e done ++ part

none_done : {A : Type 0} (e : Environment A) (room : ℕ) (q : List ℕ) → IsPartial e room q → Placed e room q
none_done e room q u = record { done = []; part = q; fit = tt; within = omega arith; open_ = subst (λ n. IsPartial e n q) (omega arith) u; spelled = refl }

short_sum : {A : Type 0} (e : Environment A) (room : ℕ) (q : List ℕ) → room ≡ 0 → length q < 2 → IsPartial e room q
short_sum e zero q over short = short
short_sum e (suc room) q over short = absurd (omega arith)

placed : {A : Type 0} (e : Environment A) (rs : List (Record A)) (q sum : List ℕ) (c : ℕ) (m : List ℕ) → AllFit e rs → length sum ≡ 2
    → records_bytes e rs ++ sum ≡ q ++ c ∷ m → Placed e (length (records_bytes e rs)) q
placed e [] q sum c m fit two joined = none_done e 0 q (short_sum e 0 q refl (omega (arith, two, ap length joined, length-append q (c ∷ m))))
placed {A} e (r ∷ rs) q sum c m fit two joined =
    let after : List ℕ = records_bytes (learn e r) rs in
    let parts : q ++ c ∷ m ≡ record_bytes e r ++ (after ++ sum) = sym joined ∙ append_assoc (record_bytes e r) after sum in
    let again : (front : List ℕ) → records_bytes (learn e r) rs ++ sum ≡ front ++ c ∷ m → Placed (learn e r) (length (records_bytes (learn e r) rs)) front =
    λ front beyond. placed (learn e r) rs front sum c m fit.1 two beyond in
    elim (split q (record_bytes e r) (c ∷ m) (after ++ sum) parts) [
      | inl s ↦ go again s.more s.second s.beyond
      | inr s ↦ onward again (s.next ∷ s.more) s.first s.beyond
    ]
  where
    onward : ((front : List ℕ) → records_bytes (learn e r) rs ++ sum ≡ front ++ c ∷ m → Placed (learn e r) (length (records_bytes (learn e r) rs)) front)
        → (front : List ℕ) → q ≡ record_bytes e r ++ front → records_bytes (learn e r) rs ++ sum ≡ front ++ c ∷ m
        → Placed e (length (records_bytes e (r ∷ rs))) q
    onward again front first beyond =
        let k = again front beyond in
        let all = length-append (record_bytes e r) (records_bytes (learn e r) rs) in
        let both = length-append (record_bytes e r) (records_bytes (learn e r) k.done) in
        let within = k.within in
        record {
          done = r ∷ k.done;
          part = k.part;
          fit = (fit.0, k.fit);
          within = omega (arith, all, both, within);
          open_ = subst (λ n. IsPartial (learn_all (learn e r) k.done) n k.part) (omega (arith, all, both)) k.open_;
          spelled = first ∙ ap (λ l. record_bytes e r ++ l) k.spelled ∙ sym (append_assoc (record_bytes e r) (records_bytes (learn e r) k.done) k.part);
        }

    go : ((front : List ℕ) → records_bytes (learn e r) rs ++ sum ≡ front ++ c ∷ m → Placed (learn e r) (length (records_bytes (learn e r) rs)) front)
        → (more : List ℕ) → record_bytes e r ≡ q ++ more → c ∷ m ≡ more ++ (records_bytes (learn e r) rs ++ sum)
        → Placed e (length (records_bytes e (r ∷ rs))) q
    go again [] second beyond = onward again [] (sym (append-nil q) ∙ sym second ∙ sym (append-nil (record_bytes e r))) (sym beyond)
    go again (d ∷ more) second beyond =
        let all = length-append (record_bytes e r) (records_bytes (learn e r) rs) in
        let some : 0 < length (records_bytes e (r ∷ rs)) = omega (arith, all, ap length second, length-append q (d ∷ more)) in
        none_done e (length (records_bytes e (r ∷ rs))) q
        (partial e (length (records_bytes e (r ∷ rs))) q some (before_record e q (d ∷ more) r fit.0 second (omega arith)))

-- ---- one file

-- the bytes are those of what there is of a file
record Begun (A : Type 0) (bytes : List ℕ) : Type 0 where
  progress : Progress A
  open_ : IsUnfinished progress
  spelled : bytes ≡ progress_bytes progress

in_data : {A : Type 0} (f : FitFile A) (bytes q : List ℕ) (c : ℕ) (m : List ℕ) → IsWellFormed f → bytes ≡ header_bytes f.header (length (body f)) ++ q
    → body f ++ little_bytes 2 (checksum (summed f)) ≡ q ++ c ∷ m → Begun A bytes
in_data f bytes q c m well is joined =
    let k = placed empty_environment f.records q (little_bytes 2 (checksum (summed f))) c m well.records (length-little_bytes 2 (checksum (summed f))) joined in
    record {
      progress = at_data f.header (length (body f)) k.done k.part;
      open_ = (well.header, k.fit, k.within, k.open_);
      spelled = is ∙ ap (λ l. header_bytes f.header (length (body f)) ++ l) k.spelled
          ∙ sym (append_assoc (header_bytes f.header (length (body f))) (records_bytes empty_environment k.done) k.part);
    }

in_file : {A : Type 0} (f : FitFile A) (bytes : List ℕ) (c : ℕ) (m : List ℕ) → IsWellFormed f → file_bytes f ≡ bytes ++ c ∷ m → Begun A bytes
in_file {A} f bytes c m well joined =
    let head : List ℕ = header_bytes f.header (length (body f)) in
    let rest : List ℕ = body f ++ little_bytes 2 (checksum (summed f)) in
    let parts : bytes ++ c ∷ m ≡ head ++ rest = sym joined ∙ append_assoc head (body f) (little_bytes 2 (checksum (summed f))) in
    elim (split bytes head (c ∷ m) rest parts) [
      | inl s ↦ go s.more s.second s.beyond
      | inr s ↦ in_data f bytes (s.next ∷ s.more) c m well s.first s.beyond
    ]
  where
    go : (more : List ℕ) → header_bytes f.header (length (body f)) ≡ bytes ++ more → c ∷ m ≡ more ++ (body f ++ little_bytes 2 (checksum (summed f)))
        → Begun A bytes
    go [] second beyond = in_data f bytes [] c m well (sym (append-nil bytes) ∙ sym second ∙ sym (append-nil (header_bytes f.header (length (body f)))))
        (sym beyond)
    go (d ∷ more) second beyond = record {
      progress = at_header bytes;
      open_ = unfinished A bytes (λ h n over fits is.
          let whole : header_bytes h n ++ (over ++ d ∷ more) ≡ header_bytes f.header (length (body f)) ++ [] =
          sym (append_assoc (header_bytes h n) over (d ∷ more)) ∙ ap (λ l. l ++ d ∷ more) (sym is) ∙ sym second
          ∙ sym (append-nil (header_bytes f.header (length (body f)))) in
          no_end over more d (one_header h f.header n (length (body f)) (over ++ d ∷ more) [] fits well.header whole).2);
      spelled = refl;
    }

-- ---- a chain

-- the bytes have come somewhere
abbrev pub Somewhere : Type 0 → List ℕ → Type 0
Somewhere A bytes = (files : List (FitFile A)) × (progress : Progress A) × HasCome files progress bytes

nowhere : {A : Type 0} (bytes : List ℕ) → bytes ≡ [] → Somewhere A bytes
nowhere {A} bytes none = ([], at_header [], record { files = tt; next = unfinished A [] (λ h n rest fits is. cc); spelled = none })

after_file : {A : Type 0} (f : FitFile A) (bytes front : List ℕ) → IsWellFormed f → bytes ≡ file_bytes f ++ front → Somewhere A front → Somewhere A bytes
after_file f bytes front well is (files, progress, come) = (
  f ∷ files,
  progress,
  record {
    files = (well, come.files);
    next = come.next;
    spelled = is ∙ ap (λ l. file_bytes f ++ l) come.spelled ∙ sym (append_assoc (file_bytes f) (chain_bytes files) (progress_bytes progress));
  },
)

somewhere : {A : Type 0} (gs : List (FitFile A)) (bytes more : List ℕ) → AllByRecursion IsWellFormed gs → bytes ++ more ≡ chain_bytes gs → Somewhere A bytes
somewhere [] bytes more each joined = nowhere bytes (front_of bytes joined)
  where
    front_of : (b : List ℕ) → b ++ more ≡ [] → b ≡ []
    front_of [] h = refl
    front_of (x ∷ b) h = absurd cc
somewhere {A} (f ∷ gs) bytes more each joined =
    elim (split bytes (file_bytes f) more (chain_bytes gs) joined) [
      | inl s ↦ go s.more s.second
      | inr s ↦ after_file f bytes (s.next ∷ s.more) each.0 s.first (somewhere gs (s.next ∷ s.more) more each.1 (sym s.beyond))
    ]
  where
    go : (rest : List ℕ) → file_bytes f ≡ bytes ++ rest → Somewhere A bytes
    go [] second = after_file f bytes [] each.0 (sym (append-nil bytes) ∙ sym second ∙ sym (append-nil (file_bytes f))) (nowhere [] refl)
    go (d ∷ rest) second =
        let k = in_file f bytes d rest each.0 second in
        ([], k.progress, record { files = tt; next = k.open_; spelled = k.spelled })

pub viable_somewhere : {A : Type 0} (limit : ℕ) (bytes : List ℕ) → IsViable A limit bytes → Somewhere A bytes
viable_somewhere limit bytes (more, gs, are, chain) = somewhere gs bytes more chain.0.each chain.1
