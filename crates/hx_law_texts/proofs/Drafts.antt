-- Drafts of a script, as far as its print was read.
use Rattle.hx_law_texts.proofs.Vocabulary.{[], Attribute, Axis, Draft, empty_draft, List, Op, Section, Space, Step, ℕ}
use Rattle.hx_script.specs.declared.draft.Section.TheVariants as sections

-- the line `hx` was read
abbrev pub naming : Draft
naming = record empty_draft { section = sections.Naming }

-- the name was read
abbrev pub keying : Space → Draft
keying s = record empty_draft { section = sections.Keying; space = record empty_draft.space { name = s.name } }

-- the key and some attributes were read
abbrev pub attributing : Space → List Attribute → Draft
attributing s attributes = record {
  section = sections.Attributes;
  space = record { name = s.name; key_name = s.key_name; key_parts = s.key_parts; attributes = attributes; subspaces = []; servers = 0; tolerate = 0 };
  regions = s.key_parts;
  sessions = [];
  calls = 0;
  steps = [];
}

-- all attributes were read, and some subspaces, with so many regions in all
abbrev pub cutting : Section → Space → List (List Axis) → ℕ → Draft
cutting at s subspaces regions = record {
  section = at;
  space = record { name = s.name; key_name = s.key_name; key_parts = s.key_parts; attributes = s.attributes; subspaces = subspaces; servers = 0; tolerate = 0 };
  regions = regions;
  sessions = [];
  calls = 0;
  steps = [];
}

-- the line `servers` was read
abbrev pub tolerating : Space → ℕ → Draft
tolerating s regions = record {
  section = sections.Tolerance;
  space = record s { tolerate = 0 };
  regions = regions;
  sessions = [];
  calls = 0;
  steps = [];
}

-- the space and some sessions were read, with so many calls in all
abbrev pub calling : Section → Space → ℕ → List (List Op) → ℕ → Draft
calling at s regions sessions calls = record { section = at; space = s; regions = regions; sessions = sessions; calls = calls; steps = [] }

-- all sessions were read, the line `steps`, and some steps
abbrev pub stepping : Space → ℕ → List (List Op) → ℕ → List (ℕ × Step) → Draft
stepping s regions sessions calls steps = record { section = sections.Steps; space = s; regions = regions; sessions = sessions; calls = calls; steps = steps }
