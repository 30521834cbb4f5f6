-- What proofs of other crates may cite. Declares nothing.
pub use Rattle.hx_law_texts.proofs.Calls.{lone_reads}
pub use Rattle.hx_law_texts.proofs.LoneCalls.{lone_told}
pub use Rattle.hx_law_texts.proofs.Names.{a_name, all_here}
pub use Rattle.hx_law_texts.proofs.Numbers.{decimal_digits, decimal_value}
pub use Rattle.hx_law_texts.proofs.Quotes.{text_says}
pub use Rattle.hx_law_texts.proofs.Says.{IsClean, both_clean, clean_by, nil_says, on_line, whole_run}
pub use Rattle.hx_law_texts.proofs.ToldTexts.{text_told}
pub use Rattle.hx_law_texts.proofs.Whole.{reads_back}
