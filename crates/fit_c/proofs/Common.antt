-- The names of std, of the crates below and of this crate's specs that several proofs use: each proof takes them from here.
pub use Rattle.std.proofs.Common.{◌≡◌, inr, inl, true, false, Bool, ℕ, List, [], Option, Some, None, Result, Ok, Err, ◌++◌, refl, sym, ap, ◌∙◌, subst}
pub use Rattle.std.specs.Prelude.{flat_map, is_ok, reverse, ◌⊎◌, IfErr, IfOk, OnOk}
pub use Rattle.std.specs.declared.alloc.Global.{Global}
pub use Rattle.fit_chain.specs.Events.{file_events}
pub use Rattle.fit_csv.specs.FromText.{Answers, FromTextOf, IsTextOf}
pub use Rattle.fit_csv.specs.declared.fault.CsvFault.{CsvFault}
pub use Rattle.fit_from_messages.specs.declared.fault.BlocksFault.{BlocksFault}
pub use Rattle.fit_from_messages.specs.FromBlocks.{AreBlocksOf, FromBlocks, FromBlocksOf}
pub use Rattle.fit_report.specs.Heard.{Lines, text_of}
pub use Rattle.fit_report.specs.Reports.{Channel, ReportsChain, HasTold}
pub use Rattle.fit_c.specs.Answers.{IsTextUnlessNoMemory, blocks_answer, conversion_answer, given, report_answer, check_answer, fault_answer}
