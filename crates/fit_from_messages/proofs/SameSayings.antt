-- What blocks of a chain say, one after another.
use Rattle.std.proofs.Common.{◌≡◌, ◌∙◌, ◌==◌, List, [], ◌∷◌, ◌++◌, Bool, true, false, sym, ap, append_assoc}
use Rattle.std.proofs.lemmas.Grind.{flat_map-append}
use Rattle.std.proofs.lemmas.List.{append-nil, map-append}
use Rattle.std.specs.Global.{Global}
use Rattle.std.specs.Prelude.{ℕ, Option, Some, None, flat_map, if◌then◌else◌, map}
use Rattle.fit_record.specs.declared.file.FitFile.{FitFile}
use Rattle.fit_record.specs.declared.message.Record.{Record}
use Rattle.fit_record.specs.declared.message.Record.TheVariants.{Define, Values as Data}
use Rattle.fit_from_messages.proofs.ChainBack.{blocks_come_back}
use Rattle.fit_from_messages.specs.Laws.{ItemsComeBack, Saying, a_header, a_record, an_end, says_in, sayings}
use Rattle.fit_from_messages.specs.Parts.{definition_in, header_in, kind}
use Rattle.fit_from_messages.specs.SaysChain.{Begun, Said, Say, SaysChain, after, after_definition, after_end, after_in, after_message}
use Rattle.fit_from_messages.specs.SaysChain.{message_said, nothing_said}

-- what blocks have said, by what is known of it
abbrev of_file : FitFile Global → List Saying
of_file f = a_header f.header ∷ map a_record f.records ++ an_end ∷ []

abbrev of_begun : Option Begun → List Saying
of_begun None = []
of_begun (Some f) = a_header f.header ∷ map a_record f.records

abbrev heard : Said → List Saying
heard said = flat_map of_file said.files ++ of_begun said.current

-- one record more
record_heard : (files : List Saying) (f : Begun) (r : Record Global)
    → files ++ (a_header f.header ∷ map a_record (f.records ++ r ∷ [])) ≡ (files ++ (a_header f.header ∷ map a_record f.records)) ++ (a_record r ∷ [])
record_heard files f r =
    ap (λ l. files ++ (a_header f.header ∷ l)) (map-append a_record f.records (r ∷ []))
    ∙ sym (append_assoc files (a_header f.header ∷ map a_record f.records) (a_record r ∷ []))

-- a file ends
end_heard : (files : List (FitFile Global)) (f : Begun)
    → flat_map of_file (files ++ record { header = f.header; records = f.records } ∷ []) ++ []
    ≡ (flat_map of_file files ++ (a_header f.header ∷ map a_record f.records)) ++ (an_end ∷ [])
end_heard files f =
    let file : FitFile Global = record { header = f.header; records = f.records } in
    let own = a_header f.header ∷ map a_record f.records in
    append-nil (flat_map of_file (files ++ file ∷ [])) ∙ flat_map-append of_file files (file ∷ [])
    ∙ ap (λ l. flat_map of_file files ++ l) (append-nil (own ++ an_end ∷ [])) ∙ sym (append_assoc (flat_map of_file files) own (an_end ∷ []))

in_file_heard : (files : List (FitFile Global)) (f : Begun) (block : List ℕ) (second third : Bool)
    → heard (if second then record { files = files; current = Some (after_definition f block) } else
    if third then record { files = files; current = Some (after_message f block) } else after_end files f)
    ≡ (flat_map of_file files ++ of_begun (Some f))
    ++ ((if second then a_record (Define (definition_in block)) else if third then a_record (Data (message_said f block)) else an_end) ∷ [])
in_file_heard files f block true third = record_heard (flat_map of_file files) f (Define (definition_in block))
in_file_heard files f block false true = record_heard (flat_map of_file files) f (Data (message_said f block))
in_file_heard files f block false false = end_heard files f

block_heard : (files : List (FitFile Global)) (current : Option Begun) (block : List ℕ)
    → heard (after_in files current block) ≡ (flat_map of_file files ++ of_begun current) ++ (says_in current block ∷ [])
block_heard files None block =
    ap (λ l. l ++ (a_header (header_in block) ∷ [])) (sym (append-nil (flat_map of_file files)))
block_heard files (Some f) block = in_file_heard files f block (kind block == 2) (kind block == 3)

all_heard : (said now : Said) (blocks : List (List ℕ)) → Say said blocks now → heard now ≡ heard said ++ sayings said blocks
all_heard said now [] say = ap heard (sym say) ∙ sym (append-nil (heard said))
all_heard said now (block ∷ blocks) say =
    all_heard (after said block) now blocks say.2
    ∙ ap (λ l. l ++ sayings (after said block) blocks) (block_heard said.files said.current block)
    ∙ append_assoc (heard said) (says_in said.current block ∷ []) (sayings (after said block) blocks)

-- blocks that say the same chain say the same
pub same_sayings : (a b : List ℕ) (files : List (FitFile Global)) (x : SaysChain a files) (y : SaysChain b files)
    → sayings nothing_said x.blocks ≡ sayings nothing_said y.blocks
same_sayings a b files x y =
    let whole : Said = record { files = files; current = None } in
    sym (all_heard nothing_said whole x.blocks x.say) ∙ all_heard nothing_said whole y.blocks y.say

pub items_come_back : ItemsComeBack
items_come_back blocks files bytes are given =
    let made = blocks_come_back files bytes are given.chain in
    (made, same_sayings blocks _ files given.says made.says)
