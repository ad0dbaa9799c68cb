mod TextsLaws
mod LinesLaws
mod LeadsLaws
mod CasesLaws
mod TurnsLaws
mod DeclaredLaws
mod ScriptLaws
