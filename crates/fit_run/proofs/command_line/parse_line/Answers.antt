use Rattle.fit_run.proofs.Common.{◌∙◌, sym, ap, subst, inr, refl, map, option_map, Some, List, ℕ, string_bytes, App, app_of, takes, clap_faults, IsRefusedFor}
use Rattle.fit_run.proofs.Common.{line_fault}
use Rattle.std.proofs.Common.{codes}
use Rattle.fit_run.proofs.LineFacts.{plain-takes, plain-command, first-is, free-as, plain-given, refused-by}
use Rattle.fit_run.proofs.command_line.parse_line.Goals as goal
use Rattle.fit_run.proofs.command_line.parse_line.Goals.{in-None, in-Some-get_str+in-Ok-from_str}

pub returns-in-Err-clause-memory : goal.returns-in-Err-clause-memory
returns-in-Err-clause-memory c = λ command plain.
    let words = map string_bytes c.args.words.now in
    c.fault_of.ensures ∙ ap line_fault (c.in-Err.ensures.passes (ap (λ (a : App). takes a words) c.in-Ok.ensures ∙ plain-takes command words plain))

pub returns-in-Err-clause-refused : goal.returns-in-Err-clause-refused
returns-in-Err-clause-refused c =
    let words = map string_bytes c.args.words.now in
    let a = app_of c.in-Ok.clap in
    subst (IsRefusedFor words) (sym c.fault_of.ensures) (refused-by a words c.in-Err.error c.in-Ok.ensures (c.in-Err.ensures.kinds (free-as a c.in-Ok.ensures)))

pub returns-in_default-get_str-clause-memory : goal.returns-in_default-get_str-clause-memory
returns-in_default-get_str-clause-memory c = λ command plain.
    let words = map string_bytes c.args.words.now in
    let is = first-is c.in-Ok.clap words c.in-Ok-try_get_matches_from.matches (codes "command") c.in-Ok.ensures c.in-Ok-try_get_matches_from.ensures.matches in
    let some = c.get_str.ensures ∙ is ∙ plain-command command words plain in
    cc (rw c.in_default-get_str.is at some)

pub returns-in_default-get_str-clause-refused : goal.returns-in_default-get_str-clause-refused
returns-in_default-get_str-clause-refused c =
    let words = map string_bytes c.args.words.now in
    let a = app_of c.in-Ok.clap in
    let is = first-is c.in-Ok.clap words c.in-Ok-try_get_matches_from.matches (codes "command") c.in-Ok.ensures c.in-Ok-try_get_matches_from.ensures.matches in
    inr (inr (
      ap (λ (b : App). clap_faults b words) (sym c.in-Ok.ensures) ∙ c.in-Ok-try_get_matches_from.ensures.kinds (free-as a c.in-Ok.ensures),
      (λ command named. let some = c.get_str.ensures ∙ is ∙ named in cc (rw c.in_default-get_str.is at some)),
      refl,
    ))

pub returns-in_default-command_of-clause-refused : goal.returns-in_default-command_of-clause-refused
returns-in_default-command_of-clause-refused c =
    let words = map string_bytes c.args.words.now in
    let a = app_of c.in-Ok.clap in
    let is = first-is c.in-Ok.clap words c.in-Ok-try_get_matches_from.matches (codes "command") c.in-Ok.ensures c.in-Ok-try_get_matches_from.ensures.matches in
    inr (inr (
      ap (λ (b : App). clap_faults b words) (sym c.in-Ok.ensures) ∙ c.in-Ok-try_get_matches_from.ensures.kinds (free-as a c.in-Ok.ensures),
      (λ command named. let some = rw c.in-Some.is at (c.get_str.ensures ∙ is ∙ named) in c.in_default-command_of.ensures.none command (cc some)),
      refl,
    ))

pub returns-in_default-command_of-clause-memory : goal.returns-in_default-command_of-clause-memory
returns-in_default-command_of-clause-memory c = λ command plain.
    let words = map string_bytes c.args.words.now in
    let is = first-is c.in-Ok.clap words c.in-Ok-try_get_matches_from.matches (codes "command") c.in-Ok.ensures c.in-Ok-try_get_matches_from.ensures.matches in
    let some = rw c.in-Some.is at (c.get_str.ensures ∙ is ∙ plain-command command words plain) in
    absurd (c.in_default-command_of.ensures.none command (cc some))

pub returns-clause-taken : goal.returns-clause-taken
returns-clause-taken c =
    let words = map string_bytes c.args.words.now in
    ap (λ (b : App). clap_faults b words) (sym c.in-Ok.ensures) ∙ c.in-Ok-try_get_matches_from.ensures.kinds (free-as (app_of c.in-Ok.clap) c.in-Ok.ensures)

pub returns-clause-names : goal.returns-clause-names
returns-clause-names c =
    let words = map string_bytes c.args.words.now in
    let command = first-is c.in-Ok.clap words c.in-Ok-try_get_matches_from.matches (codes "command") c.in-Ok.ensures
    c.in-Ok-try_get_matches_from.ensures.matches in
    let file = first-is c.in-Ok.clap words c.in-Ok-try_get_matches_from.matches (codes "file") c.in-Ok.ensures c.in-Ok-try_get_matches_from.ensures.matches in
    let word = rw c.in-Some.is at (sym command ∙ sym c.get_str.ensures) in
    let path = sym file ∙ sym c.get_str-2.ensures in (
      word ∙ ap (λ (t : List ℕ). Some t) c.in-Some-command_of.ensures.some,
      elim c.match-get_str-2.branch [
        | in-None w ↦ rw w.path-is (path ∙ ap (option_map (λ s. s.now)) w.in-None.is)
        | in-Some-get_str+in-Ok-from_str w ↦ rw w.path-is
            (path ∙ ap (option_map (λ s. s.now)) w.in-Some-get_str.is ∙ ap (λ (t : List ℕ). Some t) (sym w.in-Ok-from_str.ensures.ok))
      ],
    )

pub returns-clause-plain : goal.returns-clause-plain
returns-clause-plain c = plain-given (map string_bytes c.args.words.now) _ _ (returns-clause-names c)
