-- The numbers of settings that a host gives and gets.
use Rattle.std.specs.Prelude.{ℕ}
use Rattle.rules.specs.declared.Settings.{Settings}
use Rattle.rules.specs.Settings.{StoreValues}
use Rattle.garumbott.specs.declared.bench.GarumbottSettings.{GarumbottSettings}

abbrev pub settings_numbers : StoreValues → GarumbottSettings
settings_numbers v =
    record {
      refusal = v.refusal;
      newer = v.newer;
      version = v.version;
      table = v.table;
      profile = v.profile;
      width = v.width;
      longest = v.longest;
    }

abbrev pub host_settings : ℕ → ℕ → ℕ → ℕ → ℕ → Settings
host_settings version table profile width longest = record { version = version; table = table; profile = profile; width = width; longest = longest }
