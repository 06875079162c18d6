pub mod BelongsLaws
