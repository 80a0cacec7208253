-- What a run reads that is asked about a bank, and what comes of it: the bank is loaded, or something of it is refused.
use Rattle.std.specs.Prelude.{ℕ, ◌≡◌, List}
use Rattle.definitions.specs.heard.Logs.{Records}
use Rattle.formats.specs.declared.refusal.Refusal.{Refusal}
use Rattle.bank_config.specs.Configuration.{PlainConfig}
use Rattle.due.specs.Inputs.{Configuration, Contents, Input}
use Rattle.due.specs.Configurations.{IsBadConfiguration, IsConfiguration, logs_of}
use Rattle.due.specs.LogFiles.{AreGood, IsFirstBad, IsLogRead}

-- This file is read as this input: the configuration, whose name this is, and the logs of a good one as long as all before them
-- are good.
pub data IsBankRead (name : List ℕ) (contents : Contents) (input : Input) (file : List ℕ) : Type 0 where
  Reads_configuration : input ≡ Configuration → file ≡ name → IsBankRead name contents input file
  Reads_log : (config : PlainConfig) → IsConfiguration (contents Configuration) config
      → IsLogRead contents (logs_of config) input file → IsBankRead name contents input file

-- all that is read is good: this is the configuration, and these are its logs
pub record IsBankLoaded (contents : Contents) (config : PlainConfig) (records : List Records) : Type 0 where
  pub says : IsConfiguration (contents Configuration) config
  pub good : AreGood contents (logs_of config) records

-- the configuration is refused so, or the first bad log
pub data IsBankRefused (contents : Contents) (refusal : Refusal) : Type 0 where
  Bad_configuration : IsBadConfiguration (contents Configuration) refusal → IsBankRefused contents refusal
  Bad_log : (config : PlainConfig) → IsConfiguration (contents Configuration) config
      → IsFirstBad contents (logs_of config) refusal → IsBankRefused contents refusal
