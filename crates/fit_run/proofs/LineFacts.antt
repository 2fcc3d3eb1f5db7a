-- What clap makes of a line with a command and at most one FILE.
use Rattle.fit_run.proofs.Common.{◌∙◌, sym, ap, subst, inl, inr, ◌≡◌, ◌∷◌, ◌==◌, [], ℕ, List, Option, Some, None, true, false, refl, length, get_or, cond, App}
use Rattle.fit_run.proofs.Common.{HasKind, IsAmong, Text, fault_of, is_simple_and_free, kind_of, takes, matches_of, first_of, first_value, found_of, is_simple}
use Rattle.fit_run.proofs.Common.{app_of, HasMatchesOf, command_word, fit_app, line_fault, IsFileWord, GivesPlainLines, IsPlainLine, IsRefusedFor, Names}
use Rattle.fit_run.proofs.Common.{Command, Check, Show, ToCsv, FromCsv, Table}
use Rattle.std.proofs.Common.{codes}
use Rattle.std.proofs.lemmas.Bool.{ne_eqb}
use Rattle.clap.specs.declared.error.Error.{Error}
use Rattle.clap.specs.declared.builder.command.Command.{Command as ClapCommand}
use Rattle.clap.specs.declared.parser.matches.ArgMatches.{ArgMatches}
use Rattle.clap.proofs.WalkLemmas.{first_value-rows}
use Rattle.clap.proofs.OnLiterals.{clap_on_literals}

pub simple : is_simple fit_app ≡ true
unfolding clap_on_literals
simple = refl

pub takes-command : (c : Command) (program : Text) → takes fit_app (program ∷ command_word c ∷ []) ≡ true
unfolding clap_on_literals
takes-command Check p = refl
takes-command c p = refl

pub names-command : (c : Command) (program : Text) → Names (program ∷ command_word c ∷ []) c None
unfolding clap_on_literals
names-command Check p = (refl, refl)
names-command c p = (refl, refl)

pub takes-file : (c : Command) (program : Text) (b : ℕ) (rest : Text) → (b == 45) ≡ false → takes fit_app (program ∷ command_word c ∷ (b ∷ rest) ∷ []) ≡ true
unfolding clap_on_literals
takes-file Check p b rest n = simp n refl
takes-file c p b rest n = simp n refl

pub names-file : (c : Command) (program : Text) (b : ℕ) (rest : Text) → (b == 45) ≡ false
    → Names (program ∷ command_word c ∷ (b ∷ rest) ∷ []) c (Some (b ∷ rest))
unfolding clap_on_literals
names-file Check p b rest n = (simp n refl, simp n refl)
names-file c p b rest n = (simp n refl, simp n refl)

pub plain-takes : (c : Command) (words : List Text) → IsPlainLine c words → takes fit_app words ≡ true
plain-takes c words (p, inl e) = ap (λ (w : List Text). takes fit_app w) e ∙ takes-command c p
plain-takes c words (p, inr ([], none, e)) = absurd none
plain-takes c words (p, inr (b ∷ rest, is_file, e)) = ap (λ (w : List Text). takes fit_app w) e ∙ takes-file c p b rest (ne_eqb b 45 is_file)

abbrev named : List Text → Option Text
named words = first_of (codes "command") (matches_of fit_app words)

pub plain-command : (c : Command) (words : List Text) → IsPlainLine c words → first_of (codes "command") (matches_of fit_app words) ≡ Some (command_word c)
plain-command c words (p, inl e) = ap named e ∙ (names-command c p).0
plain-command c words (p, inr ([], none, e)) = absurd none
plain-command c words (p, inr (b ∷ rest, is_file, e)) = ap named e ∙ (names-file c p b rest (ne_eqb b 45 is_file)).0

-- ---- a line that clap took

-- the command that has a word: words of one length differ in their first letter
abbrev command_with : Text → Command
command_with word = cond (length word == 4) Show (cond (length word == 6) ToCsv (cond (length word == 8) FromCsv (cond (get_or word 0 0 == 99) Check Table)))

command-with : (c : Command) → command_with (command_word c) ≡ c
unfolding clap_on_literals
command-with Check = refl
command-with c = refl

one-word : (c d : Command) → command_word c ≡ command_word d → c ≡ d
one-word c d e = sym (command-with c) ∙ ap command_with e ∙ command-with d

one-named : (words : List Text) (c d : Command) (p q : Option Text) → Names words c p → Names words d q → (c ≡ d) × (p ≡ q)
one-named words c d p q h k = (one-word c d (cc (sym h.0 ∙ k.0)), sym h.1 ∙ k.1)

file-named : (c : Command) (program file : Text) → IsFileWord file → Names (program ∷ command_word c ∷ file ∷ []) c (Some file)
file-named c program [] none = absurd none
file-named c program (b ∷ rest) is = names-file c program b rest (ne_eqb b 45 is)

-- such a line gives its command and its FILE
pub plain-given : (words : List Text) (command : Command) (path : Option Text) → Names words command path → GivesPlainLines words command path
plain-given words command path h = λ c program. (
  (λ e. one-named words command c path None h (subst (λ (w : List Text). Names w c None) (sym e) (names-command c program))),
  (λ file is e. one-named words command c path (Some file) h (subst (λ (w : List Text). Names w c (Some file)) (sym e) (file-named c program file is))),
)

-- the first value of an id is that of clap's matches
pub first-is : (clap : ClapCommand) (words : List Text) (m : ArgMatches) (id : Text) → app_of clap ≡ fit_app → HasMatchesOf (app_of clap) words m
    → first_value (found_of m) id ≡ first_of id (matches_of fit_app words)
first-is clap words m id e h =
    let same = h (ap is_simple e ∙ simple) in
    first_value-rows (found_of m) id ∙ ap (first_of id) same.0 ∙ ap (λ (a : App). first_of id (matches_of a words)) e

-- ---- lines that are refused

free : is_simple_and_free fit_app ≡ true
unfolding clap_on_literals
free = refl

pub free-as : (a : App) → a ≡ fit_app → is_simple_and_free a ≡ true
free-as a e = ap is_simple_and_free e ∙ free

-- an error of clap's stands for the fault of one of its kinds
pub refused-by : (a : App) (words : List Text) (error : Error) → a ≡ fit_app → HasKind (fault_of a words) error
    → IsRefusedFor words (line_fault (kind_of error))
refused-by a words error e (inl memory) = inl (ap line_fault memory)
refused-by a words error e (inr among) = inr (inl (kind_of error, subst (λ b. IsAmong (kind_of error) (fault_of b words)) e among, refl))
