pub use Rattle.walrus_ty.specs.Groups
pub use Rattle.walrus_ty.specs.Records
pub use Rattle.walrus_sections.specs.Section
pub use Rattle.walrus_sections.specs.NormalForm
pub mod Steps
