mod FlagSums
