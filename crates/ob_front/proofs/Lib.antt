pub mod StagesLaws
pub mod ProgramsLaws
pub mod MiddleLaws
pub mod MiddleTurns
pub mod CompiledLaws
