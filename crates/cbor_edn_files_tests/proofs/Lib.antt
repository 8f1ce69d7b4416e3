mod Moments
