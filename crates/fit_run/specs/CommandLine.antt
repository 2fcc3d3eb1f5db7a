-- The command line of `fit`, as clap reads it.
use Rattle.std.specs.Prelude.{◌≡◌, ◌≢◌, ◌⊎◌, ◌∷◌, [], true, List, Option, Some, None, codes}
use Rattle.clap.specs.Words.{App, IsAmong, Rule, Text, fault_of, new_app, new_rule, with_rule, matches_of, first_of}
use Rattle.clap.specs.declared.error.kind.ErrorKind.{ErrorKind}
use Rattle.clap.specs.declared.error.kind.ErrorKind.TheVariants as kind
use Rattle.fit_run.specs.declared.command_line.Command.{Command}
use Rattle.fit_run.specs.declared.command_line.Command.TheVariants.{Check, Show, ToCsv, FromCsv, Table}
use Rattle.fit_run.specs.declared.command_line.LineFault.{LineFault}
use Rattle.fit_run.specs.declared.command_line.LineFault.TheVariants.{Usage, Help, NoMemory}

-- the word of a command
abbrev pub command_word : Command → Text
command_word Check = codes "check"
command_word Show = codes "show"
command_word ToCsv = codes "to-csv"
command_word FromCsv = codes "from-csv"
command_word Table = codes "table"

abbrev pub command_rule : Rule
command_rule = record (new_rule (codes "command")) { required = true }

-- a command, which has to stand, and a FILE, which may
abbrev pub fit_app : App
fit_app = with_rule (with_rule (new_app (codes "fit")) command_rule) (new_rule (codes "file"))

-- a FILE that is not empty and is no flag
abbrev pub IsFileWord : Text → Type 0
IsFileWord [] = ⊥
IsFileWord (b ∷ rest) = b ≢ 45

-- the words of a line that is refused for memory alone
abbrev pub IsPlainLine : Command → List Text → Type 0
IsPlainLine command words = (program : Text) × ((words ≡ program ∷ command_word command ∷ [])
    ⊎ ((file : Text) × IsFileWord file × (words ≡ program ∷ command_word command ∷ file ∷ [])))

-- The words of a command alone, or with one FILE, give that command, and no FILE or that one.
abbrev pub GivesPlainLines : List Text → Command → Option Text → Type 0
GivesPlainLines words command path = (c : Command) (program : Text)
    → (words ≡ program ∷ command_word c ∷ [] → (command ≡ c) × (path ≡ None))
    × ((file : Text) → IsFileWord file → words ≡ program ∷ command_word c ∷ file ∷ [] → (command ≡ c) × (path ≡ Some file))

-- what clap's matches of the words name
abbrev pub Names : List Text → Command → Option Text → Type 0
Names words command path = (first_of (codes "command") (matches_of fit_app words) ≡ Some (command_word command))
    × (first_of (codes "file") (matches_of fit_app words) ≡ path)

-- the fault that a kind of clap's errors stands for
abbrev pub line_fault : ErrorKind → LineFault
line_fault kind.OutOfMemory = NoMemory
line_fault kind.DisplayHelp = Help
line_fault other = Usage

-- What clap takes for the command is none, or isn't there.
abbrev pub NamesNoCommand : List Text → Type 0
NamesNoCommand words = (command : Command) → first_of (codes "command") (matches_of fit_app words) ≢ Some (command_word command)

-- Why the words are refused: memory was; or clap refuses them, for a kind of error that it has there; or it takes them, and they
-- name no command.
abbrev pub IsRefusedFor : List Text → LineFault → Type 0
IsRefusedFor words fault = (fault ≡ NoMemory)
    ⊎ (((k : ErrorKind) × IsAmong k (fault_of fit_app words) × (fault ≡ line_fault k))
    ⊎ ((fault_of fit_app words ≡ []) × NamesNoCommand words × (fault ≡ Usage)))
