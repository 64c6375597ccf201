pub mod CallLaws
pub mod StartLaws
