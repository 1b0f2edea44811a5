pub mod PartsLemmas
pub mod MarkingLemmas
pub mod PuttingLemmas
pub mod DeltaLemmas
pub mod ChangingLemmas
pub mod InvokingLemmas
pub mod ShowingLemmas
pub mod SpendingLemmas
