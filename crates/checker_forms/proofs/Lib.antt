-- Facts about forms.
pub mod FormLaws
pub mod KeptLaws
