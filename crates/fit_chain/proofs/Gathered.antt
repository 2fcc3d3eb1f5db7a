-- What a reader gathers from events: the whole files, and of the next one the header, once it is whole, and the whole records.
use Rattle.fit_chain.proofs.Common.{◌≡◌, ℕ, List, [], ◌∷◌, ◌++◌, Option, Some, None, refl, sym, ap, ◌∙◌, subst, append_assoc, flat_map, map, append-nil, Header}
use Rattle.fit_chain.proofs.Common.{FitFile, Record, Progress, at_header, at_data, HasCome, Event, header, file_end, file_events, progress_events, AreEvents}
use Rattle.fit_chain.proofs.Common.{ComesToRecords, progress_header, progress_records}
use Rattle.fit_chain.specs.Events.{item}

pub record Gathered (A : Type 0) : Type 0 where
  pub files : List (FitFile A)
  pub head : Option Header
  pub records : List (Record A)

abbrev pub gathered : {A : Type 0} → List (FitFile A) → Option Header → List (Record A) → Gathered A
gathered files head records = record { files = files; head = head; records = records }

-- no file ends that has no header
abbrev pub ended : {A : Type 0} → List (FitFile A) → Option Header → List (Record A) → Option (Gathered A)
ended files None records = None
ended files (Some h) records = Some (gathered (files ++ record { header = h; records = records } ∷ []) None [])

abbrev pub after : {A : Type 0} → Gathered A → Event A → Option (Gathered A)
after g (header h n) = Some (gathered g.files (Some h) g.records)
after g (item r) = Some (gathered g.files g.head (g.records ++ r ∷ []))
after g file_end = ended g.files g.head g.records

abbrev pub then_gather : {A : Type 0} → Option (Gathered A) → (Gathered A → Option (Gathered A)) → Option (Gathered A)
then_gather None f = None
then_gather (Some g) f = f g

unfoldable pub gather : {A : Type 0} → Gathered A → List (Event A) → Option (Gathered A)
gather g [] = Some g
gather g (x ∷ xs) = then_gather (after g x) (λ h. gather h xs)

then_then : {A : Type 0} (o : Option (Gathered A)) (xs ys : List (Event A))
    → ((h : Gathered A) → gather h (xs ++ ys) ≡ then_gather (gather h xs) (λ k. gather k ys))
    → then_gather o (λ h. gather h (xs ++ ys)) ≡ then_gather (then_gather o (λ h. gather h xs)) (λ k. gather k ys)
then_then None xs ys each = refl
then_then (Some h) xs ys each = each h

gather-append : {A : Type 0} (g : Gathered A) (xs ys : List (Event A)) → gather g (xs ++ ys) ≡ then_gather (gather g xs) (λ h. gather h ys)
unfolding gather
gather-append g [] ys = refl
gather-append g (x ∷ xs) ys = then_then (after g x) xs ys (λ h. gather-append h xs ys)

gather-items : {A : Type 0} (files : List (FitFile A)) (head : Option Header) (before rs : List (Record A))
    → gather (gathered files head before) (map item rs) ≡ Some (gathered files head (before ++ rs))
unfolding gather
gather-items files head before [] = ap (λ rs. Some (gathered files head rs)) (sym (append-nil before))
gather-items files head before (r ∷ rs) =
    gather-items files head (before ++ r ∷ []) rs ∙ ap (λ rs. Some (gathered files head rs)) (append_assoc before (r ∷ []) rs)

gather-file : {A : Type 0} (files : List (FitFile A)) (f : FitFile A)
    → gather (gathered files None []) (file_events f) ≡ Some (gathered (files ++ f ∷ []) None [])
unfolding gather
gather-file files f =
    gather-append (gathered files (Some f.header) []) (map item f.records) (file_end ∷ [])
    ∙ ap (λ o. then_gather o (λ h. gather h (file_end ∷ []))) (gather-items files (Some f.header) [] f.records)

gather-files : {A : Type 0} (files fs : List (FitFile A)) → gather (gathered files None []) (flat_map file_events fs) ≡ Some (gathered (files ++ fs) None [])
unfolding gather
gather-files files [] = ap (λ fs. Some (gathered fs None [])) (sym (append-nil files))
gather-files files (f ∷ fs) =
    gather-append (gathered files None []) (file_events f) (flat_map file_events fs)
    ∙ ap (λ o. then_gather o (λ h. gather h (flat_map file_events fs))) (gather-file files f)
    ∙ gather-files (files ++ f ∷ []) fs ∙ ap (λ gs. Some (gathered gs None [])) (append_assoc files (f ∷ []) fs)

gather-progress : {A : Type 0} (files : List (FitFile A)) (g : Progress A)
    → gather (gathered files None []) (progress_events g) ≡ Some (gathered files (progress_header g) (progress_records g))
unfolding gather
gather-progress files (at_header front) = refl
gather-progress files (at_data h n records part) = gather-items files (Some h) [] records

gather-all : {A : Type 0} (fs : List (FitFile A)) (g : Progress A)
    → gather (gathered [] None []) (flat_map file_events fs ++ progress_events g) ≡ Some (gathered fs (progress_header g) (progress_records g))
gather-all fs g =
    gather-append (gathered [] None []) (flat_map file_events fs) (progress_events g)
    ∙ ap (λ o. then_gather o (λ h. gather h (progress_events g))) (gather-files [] fs) ∙ gather-progress fs g

same_some : {A : Type 0} (x y : Gathered A) → Some x ≡ Some y → x ≡ y
same_some x y e = cc

-- what the events gather to is what stands
stands_of : {A : Type 0} (q : List ℕ) (es : List (Event A)) (k : Gathered A) → AreEvents q es → gather (gathered [] None []) es ≡ Some k
    → ComesToRecords k.files k.head k.records q
stands_of {A} q es k (fs, g, come, is) gathers =
    let same : gathered fs (progress_header g) (progress_records g) ≡ k =
    same_some _ _ (sym (gather-all fs g) ∙ ap (gather (gathered [] None [])) (sym is) ∙ gathers) in
    record {
      progress = g;
      come = subst (λ gs. HasCome gs g q) (ap (λ (x : Gathered A). x.files) same) come;
      head_is = ap (λ (x : Gathered A). x.head) same;
      records_are = ap (λ (x : Gathered A). x.records) same;
    }

-- the events and the end of a file
ends_there : {A : Type 0} (files : List (FitFile A)) (head : Option Header) (records : List (Record A)) (q : List ℕ) (es : List (Event A))
    → gather (gathered [] None []) es ≡ Some (gathered files head records) → AreEvents q (es ++ file_end ∷ [])
    → (h : Header) × (head ≡ Some h) × ComesToRecords (files ++ record { header = h; records = records } ∷ []) None [] q
unfolding gather
ends_there files None records q es gathers (fs, g, come, is) =
    let none : gather (gathered [] None []) (es ++ file_end ∷ []) ≡ None =
    gather-append (gathered [] None []) es (file_end ∷ []) ∙ ap (λ o. then_gather o (λ h. gather h (file_end ∷ []))) gathers in
    let both = sym (gather-all fs g) ∙ ap (gather (gathered [] None [])) (sym is) ∙ none in
    absurd cc
ends_there {A} files (Some h) records q es gathers tells =
    let f : FitFile A = record { header = h; records = records } in
    let all : gather (gathered [] None []) (es ++ file_end ∷ []) ≡ Some (gathered (files ++ f ∷ []) None []) =
    gather-append (gathered [] None []) es (file_end ∷ []) ∙ ap (λ o. then_gather o (λ k. gather k (file_end ∷ []))) gathers in
    (h, refl, stands_of q (es ++ file_end ∷ []) (gathered (files ++ f ∷ []) None []) tells all)

-- A reader's place, by the events after some bytes.
module _ {A : Type 0} (files : List (FitFile A)) (head : Option Header) (records : List (Record A)) (p : List ℕ) (s : ComesToRecords files head records p) where
  abbrev pub events_here : List (Event A)
  events_here = flat_map file_events files ++ progress_events s.progress

  pub are_here : AreEvents p events_here
  are_here = (files, s.progress, s.come, refl)

  gathers : gather (gathered [] None []) events_here ≡ Some (gathered files head records)
  gathers = gather-all files s.progress ∙ (λ i. Some (gathered files (s.head_is i) (s.records_are i)))

  one_more : (x : Event A) → gather (gathered [] None []) (events_here ++ x ∷ []) ≡ gather (gathered files head records) (x ∷ [])
  one_more x = gather-append (gathered [] None []) events_here (x ∷ []) ∙ ap (λ o. then_gather o (λ h. gather h (x ∷ []))) gathers

  pub stands_with : (q : List ℕ) → AreEvents q events_here → ComesToRecords files head records q
  stands_with q are = stands_of q events_here (gathered files head records) are gathers

  pub ends_with : (q : List ℕ) → AreEvents q (events_here ++ file_end ∷ [])
      → (h : Header) × (head ≡ Some h) × ComesToRecords (files ++ record { header = h; records = records } ∷ []) None [] q
  ends_with q are = ends_there files head records q events_here gathers are

module _ {A : Type 0} (files : List (FitFile A)) (head : Option Header) (records : List (Record A)) (p q : List ℕ) (s : ComesToRecords files head records p)
  where
    here : AreEvents p (events_here files head records p s)
    here = are_here files head records p s

    -- no event more
    pub stands_quiet : ((events : List (Event A)) → AreEvents p events → AreEvents q events) → ComesToRecords files head records q
    stands_quiet still = stands_with files head records p s q (still _ here)

    pub stands_header : (h : Header) (n : ℕ) → ((events : List (Event A)) → AreEvents p events → AreEvents q (events ++ header h n ∷ []))
        → ComesToRecords files (Some h) records q
    unfolding gather
    stands_header h n tells = stands_of q _ (gathered files (Some h) records) (tells _ here) (one_more files head records p s (header h n))

    pub stands_item : (r : Record A) → ((events : List (Event A)) → AreEvents p events → AreEvents q (events ++ item r ∷ []))
        → ComesToRecords files head (records ++ r ∷ []) q
    unfolding gather
    stands_item r tells = stands_of q _ (gathered files head (records ++ r ∷ [])) (tells _ here) (one_more files head records p s (item r))
